-- The mnemonics, in the places of the guide's opcode map: the table that names an instruction and finds a name again.
-- Sources: the guide's instruction tables; docs/DECISIONS.md where its pages differ.
-- Assumes nothing.
use Rattle.std.specs.Prelude.{ℕ, zero, suc, ◌+◌, ◌*◌, ◌/◌, cond, List, [], ◌∷◌, ◌++◌, ltb, eqb, drop}
use Rattle.text.specs.Words.{ascii}

-- six letters for each place: 0x00 to 0x3f by the first byte, 0x4? to 0xd? by its first nibble, 0xe0 to 0xff by its top six bits.
-- No instruction has the last place; `half` stands there.
unfoldable pub names : List ℕ
names =
    ascii "                                                                        lsli  lsri  asri  multi "
    ++ ascii "swint       mfsfr mtsfr                                                 jr    jrl   jsfr        "
    ++ ascii "sub   add   subc  addc  mov   and   or    xor   sxb   xhw   sxh   zxh   lsl   lsr   asr   mult  "
    ++ ascii "cmpeqicmpeq cmphs cmpls cmplt cmpgt cmplticmpgtimovf  subf  addif addf  movt  subt  addit addt  "
    ++ ascii "ldrpc andi  addi  movi  ldr   str   ldrh  strh  ldrb  strb  "
    ++ ascii "jf    sjf   jt    sjt   j     sj    jl    half  "

-- the place of a first byte, and that of `half`
unfoldable pub place_of : ℕ → ℕ
place_of n = cond (ltb n 64) n (cond (ltb n 224) (60 + n / 16) (18 + n / 4))

abbrev pub half_place : ℕ
half_place = 81

-- of the first n letters those before a blank
unfoldable pub letters_in : ℕ → List ℕ → List ℕ
letters_in zero l = []
letters_in (suc n) [] = []
letters_in (suc n) (c ∷ l) = cond (eqb c 32) [] (c ∷ letters_in n l)

unfoldable pub name_at : ℕ → List ℕ
name_at p = letters_in 6 (drop (6 * p) names)
