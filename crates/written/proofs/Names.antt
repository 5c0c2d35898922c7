-- A line's mnemonic is the name of what its bits decode to, and such a name is the mnemonic that names it.
-- Assumes nothing.
use Rattle.std.specs.Prelude.{None, Option, Some}
use Prim.Native.Nat.{ℕ, ◌+◌, ◌-◌, ◌*◌, ◌/◌, ◌%◌, ◌<◌, ◌≤◌}
use mathlib.Core.Logic.{◌⊎◌, inl, inr}
use mathlib.Core.Path.{◌≡◌, refl, sym, ap, subst, ◌∙◌}
use mathlib.Core.Bool.{Bool, true, false, cond, ◌&&◌, ◌||◌}
use mathlib.Core.List.{List}
use native.Mathlib.Omega.{arith}
use lib.Dec.{ltb, leb, eqb}
use lib.ListN.{get_or}
use borrow.Author.Tests.{lt-ltb, le-ltb, ltb-true, ltb-false, eqb-true, ne_eqb}
use Rattle.isa.specs.Codes.{kind_of, kind_in, low_kind, fixed_row, jump_row, shift_no, alu_no, cmp_no, cmp_imm_no, cond_no, cond_imm_no, imm_no, load_no, store_no, short_no, long_no}
use Rattle.isa.specs.Decode.{operands_of, decode_of, nib_c, nib_d, short_if}
use Rattle.isa.specs.Statements.{size_of, low_part, bound_of}
use Rattle.isa.specs.declared.Kind.{Kind}
use Rattle.isa.specs.declared.Instr.{Instr}
use Rattle.isa.specs.declared.Decoded.{Decoded}
use Rattle.isa.proofs.Rows.{each_at, and_left, and_right, or_right, past}
use Rattle.isa.proofs.Theorems.{size_by_first_half}
use Rattle.text.specs.Words.{ascii}
use Rattle.listing.specs.Names.{names, place_of, half_place, letters_in, name_at}
use Rattle.expr.specs.Expr.{run_of, key_from, key_of, is_name, index_of}
use Rattle.expr.proofs.Theorems.{names_differ, name_number}
use Rattle.forms.specs.Form.{field_at, named, named_from, mnemonics, byte_of, what_at, what_of}
use Rattle.forms.specs.declared.What.{What}
use Rattle.forms.proofs.Mnemonics.{all_names, index_at}

-- ---- the kind of an instruction, and the place of a kind's name

abbrev pub kind_by : Instr → Kind
kind_by (Instr.Alu op c d) = Kind.Alu op
kind_by (Instr.ShiftImm op c n) = Kind.ShiftImm op
kind_by (Instr.Cmp op c d) = Kind.Cmp op
kind_by (Instr.CmpImm op c x) = Kind.CmpImm op
kind_by (Instr.Cond op t c d) = Kind.Cond op t
kind_by (Instr.CondImm t c x) = Kind.CondImm t
kind_by (Instr.Ldrpc c n) = Kind.Ldrpc
kind_by (Instr.Imm op c x) = Kind.Imm op
kind_by (Instr.Load w c n d) = Kind.Load w
kind_by (Instr.Store w c n d) = Kind.Store w
kind_by (Instr.Mfsfr c s) = Kind.Mfsfr
kind_by (Instr.Mtsfr s d) = Kind.Mtsfr
kind_by (Instr.Jr d) = Kind.Jr
kind_by (Instr.Jrl d) = Kind.Jrl
kind_by (Instr.Jsfr s) = Kind.Jsfr
kind_by (Instr.Swint n) = Kind.Swint
kind_by (Instr.ShortJump op d) = Kind.ShortJump op
kind_by (Instr.LongJump op d) = Kind.LongJump op

-- `half` has the place that no instruction has
abbrev place_by : Kind → ℕ
place_by Kind.Nothing = half_place
place_by (Kind.Alu op) = 32 + alu_no op
place_by (Kind.ShiftImm op) = shift_no op
place_by (Kind.Cmp op) = 48 + cmp_no op
place_by (Kind.CmpImm op) = 48 + cmp_imm_no op
place_by (Kind.Cond op t) = 48 + cond_no op t
place_by (Kind.CondImm t) = 48 + cond_imm_no t
place_by Kind.Ldrpc = 64
place_by (Kind.Imm op) = 60 + imm_no op
place_by (Kind.Load w) = 60 + load_no w
place_by (Kind.Store w) = 60 + store_no w
place_by Kind.Mfsfr = 18
place_by Kind.Mtsfr = 19
place_by Kind.Jr = 28
place_by Kind.Jrl = 29
place_by Kind.Jsfr = 30
place_by Kind.Swint = 16
place_by (Kind.ShortJump op) = 18 + short_no op
place_by (Kind.LongJump op) = 18 + long_no op

-- what decodes is of the first byte's kind
abbrev OfKind : Kind → Option Decoded → Type 0
OfKind k (Some (Decoded.Short i)) = kind_by i ≡ k
OfKind k (Some (Decoded.Long i)) = kind_by i ≡ k
OfKind k None = Unit {0}

if_kind : (t : Bool) (k : Kind) (i : Instr) → kind_by i ≡ k → OfKind k (short_if t i)
if_kind true k i e = e
if_kind false k i e = tt

operands_kind : (k : Kind) (h s : ℕ) → OfKind k (operands_of k h s)
unfolding operands_of
operands_kind Kind.Nothing h s = tt
operands_kind (Kind.Alu op) h s = refl
operands_kind (Kind.ShiftImm op) h s = refl
operands_kind (Kind.Cmp op) h s = refl
operands_kind (Kind.CmpImm op) h s = refl
operands_kind (Kind.Cond op t) h s = refl
operands_kind (Kind.CondImm t) h s = refl
operands_kind Kind.Ldrpc h s = refl
operands_kind (Kind.Imm op) h s = refl
operands_kind (Kind.Load w) h s = refl
operands_kind (Kind.Store w) h s = refl
operands_kind Kind.Mfsfr h s = if_kind (leb (nib_d h) 10) Kind.Mfsfr (Instr.Mfsfr (nib_c h) (nib_d h)) refl
operands_kind Kind.Mtsfr h s = if_kind (leb (nib_c h) 10) Kind.Mtsfr (Instr.Mtsfr (nib_c h) (nib_d h)) refl
operands_kind Kind.Jr h s = if_kind (eqb (nib_c h) 0) Kind.Jr (Instr.Jr (nib_d h)) refl
operands_kind Kind.Jrl h s = if_kind (eqb (nib_c h) 0) Kind.Jrl (Instr.Jrl (nib_d h)) refl
operands_kind Kind.Jsfr h s = if_kind (eqb (nib_c h) 0 && leb (nib_d h) 3) Kind.Jsfr (Instr.Jsfr (nib_d h)) refl
operands_kind Kind.Swint h s = if_kind (eqb (nib_c h) 0) Kind.Swint (Instr.Swint (nib_d h)) refl
operands_kind (Kind.ShortJump op) h s = refl
operands_kind (Kind.LongJump op) h s = refl

decoded_kind : (h s : ℕ) → OfKind (kind_of (h / 256)) (decode_of h s)
unfolding decode_of
decoded_kind h s = operands_kind (kind_of (h / 256)) h s

-- ---- computed of all first bytes, and of all places

-- a first byte that is some instruction's has its kind's place, and that is not the place of `half`
byte_each : (n : ℕ) → n < 256 → (eqb (bound_of n) 0 || (eqb (place_by (kind_of n)) (place_of n) && ltb (place_of n) half_place)) ≡ true
unfolding kind_of place_of
byte_each n h = each_at (λ (k : ℕ). eqb (bound_of k) 0 || (eqb (place_by (kind_of k)) (place_of k) && ltb (place_of k) half_place)) 256 n refl h

-- a text is a mnemonic's name, and stands at p in the table
abbrev is_at : ℕ → List ℕ → Bool
is_at p t = is_name t && eqb (get_or mnemonics p 0) (key_of t)

-- a place whose first byte is some kind's has that kind's place
place_each : (p : ℕ) → p < half_place
    → (eqb (place_by (kind_of (byte_of p))) half_place || (eqb (place_by (kind_of (byte_of p))) p && is_at p (name_at p))) ≡ true
unfolding kind_of byte_of name_at names letters_in mnemonics named_from key_from run_of
place_each p h =
    each_at (λ (q : ℕ). eqb (place_by (kind_of (byte_of q))) half_place || (eqb (place_by (kind_of (byte_of q))) q && is_at q (name_at q))) half_place p refl h

data_at : (is_at half_place (ascii "half") ≡ true) × (is_at 82 (ascii "word") ≡ true)
unfolding name_at names letters_in mnemonics named_from key_from run_of
data_at = (refl, refl)

-- ---- a field that is found in the table

abbrev found : List ℕ → ℕ
found f = index_of mnemonics (named f)

named_by : (f t : List ℕ) → is_name t ≡ true → named f ≡ key_of t → t ≡ f
named_by f t h = go (is_name f) refl
  where
    go : (u : Bool) → is_name f ≡ u → cond u (key_of f) 0 ≡ key_of t → t ≡ f
    go true g e = names_differ t f h g (sym e)
    go false g e = let k = (name_number t h).0 in absurd (omega arith)

spelled : (f t : List ℕ) (p : ℕ) → p < 83 → found f ≡ p → is_at p t ≡ true → t ≡ f
spelled f t p h e a =
    let l : found f < 83 = omega arith in
    named_by f t (and_left _ _ a) (sym (index_at mnemonics (named f) (rw all_names l)) ∙ ap (λ (q : ℕ). get_or mnemonics q 0) e ∙ eqb-true _ _ (and_right (is_name t) _ a))

-- ---- the name of a line

what_half : (p : ℕ) → what_at p ≡ What.Half → p ≡ half_place
unfolding what_at
what_half p = go (ltb p half_place) (eqb p half_place) refl (eqb p 82)
  where
    go : (u v : Bool) → eqb p half_place ≡ v → (w : Bool)
        → cond u (What.Code (kind_of (byte_of p))) (cond v What.Half (cond w What.Word (What.Code Kind.Nothing))) ≡ What.Half → p ≡ half_place
    go true v f w e = let z : ◌≡◌ {A = ℕ} 0 1 = cc in absurd (omega arith)
    go false true f w e = eqb-true p half_place f
    go false false f true e = let z : ◌≡◌ {A = ℕ} 0 1 = cc in absurd (omega arith)
    go false false f false e = let z : ◌≡◌ {A = ℕ} 0 1 = cc in absurd (omega arith)

what_word : (p : ℕ) → what_at p ≡ What.Word → p ≡ 82
unfolding what_at
what_word p = go (ltb p half_place) (eqb p half_place) (eqb p 82) refl
  where
    go : (u v w : Bool) → eqb p 82 ≡ w
        → cond u (What.Code (kind_of (byte_of p))) (cond v What.Half (cond w What.Word (What.Code Kind.Nothing))) ≡ What.Word → p ≡ 82
    go true v w f e = let z : ◌≡◌ {A = ℕ} 0 1 = cc in absurd (omega arith)
    go false true w f e = let z : ◌≡◌ {A = ℕ} 0 1 = cc in absurd (omega arith)
    go false false true f e = eqb-true p 82 f
    go false false false f e = let z : ◌≡◌ {A = ℕ} 0 1 = cc in absurd (omega arith)

what_code : (p : ℕ) (k : Kind) → (place_by k ≡ half_place → ⊥) → what_at p ≡ What.Code k → (p < half_place) × (kind_of (byte_of p) ≡ k)
unfolding what_at
what_code p k some = go (ltb p half_place) refl (eqb p half_place) (eqb p 82)
  where
    go : (u : Bool) → ltb p half_place ≡ u → (v w : Bool)
        → cond u (What.Code (kind_of (byte_of p))) (cond v What.Half (cond w What.Word (What.Code Kind.Nothing))) ≡ What.Code k
        → (p < half_place) × (kind_of (byte_of p) ≡ k)
    go true f v w e = (ltb-true p half_place f, cc)
    go false f true w e = let z : ◌≡◌ {A = ℕ} 0 1 = cc in absurd (omega arith)
    go false f false true e = let z : ◌≡◌ {A = ℕ} 0 1 = cc in absurd (omega arith)
    go false f false false e = let q : Kind.Nothing ≡ k = cc in absurd (some (ap place_by (sym q)))

pub half_name : (b : List ℕ) → what_of b ≡ What.Half → ascii "half" ≡ field_at 1 b
unfolding what_of
half_name b e = spelled (field_at 1 b) (ascii "half") half_place (omega arith) (what_half _ e) data_at.0

pub word_name : (b : List ℕ) → what_of b ≡ What.Word → ascii "word" ≡ field_at 1 b
unfolding what_of
word_name b e = spelled (field_at 1 b) (ascii "word") 82 (omega arith) (what_word _ e) data_at.1

-- bits that decode have 16 in their first half
no_kind : (n : ℕ) → 256 ≤ n → kind_of n ≡ Kind.Nothing
unfolding kind_of
no_kind n h = rw (le-ltb n 64 (omega arith), le-ltb n 224 (omega arith)) (sym (past jump_row (n / 4 - 56) (omega arith)))

module _ (h s : ℕ) (some : size_of (decode_of h s) ≡ 0 → ⊥) where
  no_half : 65536 ≤ h → ⊥
  unfolding decode_of operands_of
  no_half l = some (ap (λ (k : Kind). size_of (operands_of k h s)) (no_kind (h / 256) (omega arith)))

  low : h < 65536
  low = go (ltb h 65536) refl
    where
      go : (t : Bool) → ltb h 65536 ≡ t → h < 65536
      go true e = ltb-true h 65536 e
      go false e = absurd (no_half (ltb-false h 65536 e))

  bound : bound_of (h / 256) ≡ 0 → ⊥
  bound e = some (size_by_first_half h s low ∙ rw (e, le-ltb (low_part (h / 256) h) 0 (omega arith)))

  here : (eqb (place_by (kind_of (h / 256))) (place_of (h / 256)) && ltb (place_of (h / 256)) half_place) ≡ true
  here = let l = low in or_right (eqb (bound_of (h / 256)) 0) _ (byte_each (h / 256) (omega arith)) (ne_eqb _ 0 bound)

  pub place_low : place_of (h / 256) < half_place
  place_low = ltb-true _ _ (and_right (eqb (place_by (kind_of (h / 256))) (place_of (h / 256))) _ here)

  module _ (b : List ℕ) (names_it : what_of b ≡ What.Code (kind_of (h / 256))) where
    code_name : name_at (place_of (h / 256)) ≡ field_at 1 b
    unfolding what_of
    code_name =
        let m : place_by (kind_of (h / 256)) ≡ place_of (h / 256) = eqb-true _ _ (and_left _ _ here) in
        let l = place_low in
        let p : ℕ = found (field_at 1 b) in
        let some_here : place_by (kind_of (h / 256)) ≡ half_place → ⊥ = λ q. omega arith in
        let w = what_code p (kind_of (h / 256)) some_here names_it in
        let r : p < half_place = w.0 in
        let n : place_by (kind_of (byte_of p)) ≡ place_of (h / 256) = ap place_by w.1 ∙ m in
        let some_there : place_by (kind_of (byte_of p)) ≡ half_place → ⊥ = λ q. omega arith in
        let e = or_right (eqb (place_by (kind_of (byte_of p))) half_place) _ (place_each p r) (ne_eqb _ half_place some_there) in
        let q : p ≡ place_of (h / 256) = sym (eqb-true _ _ (and_left _ _ e)) ∙ n in
        ap name_at (sym q) ∙ spelled (field_at 1 b) (name_at p) p (omega arith) refl (and_right (eqb (place_by (kind_of (byte_of p))) p) _ e)

-- ---- and the name of what bits decode to is the mnemonic that names it

-- the bytes of one place are of one kind
same_kind : (n : ℕ) → n < 256 → kind_of (byte_of (place_of n)) ≡ kind_of n
unfolding kind_of place_of byte_of
same_kind n h = go (ltb n 64) refl (ltb n 224) refl
  where
    go : (t : Bool) → ltb n 64 ≡ t → (u : Bool) → ltb n 224 ≡ u
        → kind_of (byte_of (cond t n (cond u (60 + n / 16) (18 + n / 4))))
        ≡ cond t (low_kind (n / 16) (n % 16)) (cond u (kind_in fixed_row (n / 16 - 4)) (kind_in jump_row (n / 4 - 56)))
    go true e u f = rw (e, e)
    go false e true f =
        let l = ltb-false n 64 e in
        let g = ltb-true n 224 f in
        let q : (60 + n / 16 - 60) * 16 ≡ n / 16 * 16 = omega arith in
        let r : n / 16 * 16 / 16 - 4 ≡ n / 16 - 4 = omega arith in
        rw (le-ltb (60 + n / 16) 64 (omega arith), lt-ltb (60 + n / 16) 74 (omega arith), q, le-ltb (n / 16 * 16) 64 (omega arith), lt-ltb (n / 16 * 16) 224 (omega arith), r)
    go false e false f =
        let l = ltb-false n 224 f in
        let q : (18 + n / 4 - 18) * 4 ≡ n / 4 * 4 = omega arith in
        let r : n / 4 * 4 / 4 - 56 ≡ n / 4 - 56 = omega arith in
        rw (le-ltb (18 + n / 4) 64 (omega arith), le-ltb (18 + n / 4) 74 (omega arith), q, le-ltb (n / 4 * 4) 64 (omega arith), le-ltb (n / 4 * 4) 224 (omega arith), r)

-- computed: the name of a first byte that is some instruction's is found at its place
name_each : (n : ℕ) → n < 256 → (eqb (bound_of n) 0 || eqb (found (name_at (place_of n))) (place_of n)) ≡ true
unfolding place_of name_at names letters_in mnemonics named_from index_of key_from run_of
name_each n h = each_at (λ (k : ℕ). eqb (bound_of k) 0 || eqb (found (name_at (place_of k))) (place_of k)) 256 n refl h

what_at_lem : (p : ℕ) → p < half_place → what_at p ≡ What.Code (kind_of (byte_of p))
unfolding what_at
what_at_lem p h = rw (lt-ltb p half_place h)

module _ (h s : ℕ) (some : size_of (decode_of h s) ≡ 0 → ⊥) (b : List ℕ) where
  pub named_code : name_at (place_of (h / 256)) ≡ field_at 1 b → what_of b ≡ What.Code (kind_of (h / 256))
  unfolding what_of
  named_code e =
      let l : h < 65536 = low h s some in
      let p : ℕ = place_of (h / 256) in
      let f : found (name_at p) ≡ p = eqb-true _ _ (or_right (eqb (bound_of (h / 256)) 0) _ (name_each (h / 256) (omega arith)) (ne_eqb _ 0 (bound h s some))) in
      rw (← e, f, what_at_lem p (place_low h s some)) (ap What.Code (same_kind (h / 256) (omega arith)))

-- ---- the same of an instruction that bits decode to

module _ (h s : ℕ) (i : Instr) where
  abbrev pub Gives : Type 0
  Gives = (decode_of h s ≡ Some (Decoded.Short i)) ⊎ (decode_of h s ≡ Some (Decoded.Long i))

  gives_some : Gives → size_of (decode_of h s) ≡ 0 → ⊥
  gives_some (inl e) q = let z : ◌≡◌ {A = ℕ} 2 0 = sym (ap size_of e) ∙ q in omega arith
  gives_some (inr e) q = let z : ◌≡◌ {A = ℕ} 4 0 = sym (ap size_of e) ∙ q in omega arith

  gives_kind : Gives → kind_by i ≡ kind_of (h / 256)
  gives_kind (inl e) = subst (OfKind (kind_of (h / 256))) e (decoded_kind h s)
  gives_kind (inr e) = subst (OfKind (kind_of (h / 256))) e (decoded_kind h s)

  module _ (g : Gives) where
    pub instr_low : h < 65536
    instr_low = low h s (gives_some g)

    module _ (b : List ℕ) where
      pub instr_name : what_of b ≡ What.Code (kind_by i) → name_at (place_of (h / 256)) ≡ field_at 1 b
      instr_name w = code_name h s (gives_some g) b (w ∙ ap What.Code (gives_kind g))

      pub instr_what : name_at (place_of (h / 256)) ≡ field_at 1 b → what_of b ≡ What.Code (kind_by i)
      instr_what n = named_code h s (gives_some g) b n ∙ ap What.Code (sym (gives_kind g))

pub half_what : (b : List ℕ) → ascii "half" ≡ field_at 1 b → what_of b ≡ What.Half
unfolding what_of what_at name_at names letters_in mnemonics named_from index_of key_from run_of
half_what b e = rw (← e)

pub word_what : (b : List ℕ) → ascii "word" ≡ field_at 1 b → what_of b ≡ What.Word
unfolding what_of what_at name_at names letters_in mnemonics named_from index_of key_from run_of
word_what b e = rw (← e)
