-- Why a line is bad, and where in it. Document 01 asks for the line's number alone; this is for the words of a message.
-- Assumes nothing.
use Rattle.std.specs.Prelude.{ℕ, zero, suc, ◌+◌, ◌/◌, Bool, cond, ◌&&◌, ◌||◌, not, List, [], ◌∷◌, ltb, leb, eqb, length, get_or, None, Option, Some}
use Rattle.text.specs.Digits.{digits_in, leading_zero, decimal_of, address_of}
use Rattle.text.specs.Fields.{before_of, beyond_of, same_of}
use Rattle.script.specs.Line.{is_even, word_mem, word_at, word_mark, word_run}
use Rattle.script.specs.declared.Fault.{Fault}
use Rattle.script.specs.declared.Phase.{Phase}
use Rattle.script.specs.declared.Reader.{Reader}
use Rattle.script.specs.declared.Reason.{Reason}

abbrev pub good : Option Fault
good = None

-- a fault at place a of line l, counted from 0 here and from 1 in the fault, with the byte there: 10, the newline, where the line is at its end
abbrev pub found : Reason → ℕ → List ℕ → Option Fault
found r a l = Some (cond (ltb a (length l)) (record { reason = r; place = a + 1; byte = get_or l a 0 }) (record { reason = r; place = length l + 1; byte = 10 }))

-- the end of the word: how many small letters lead, of the first n bytes; no word has more than four
abbrev pub ends_word : ℕ → Bool
ends_word c = ltb c 97 || ltb 122 c

unfoldable pub letters_in : ℕ → List ℕ → ℕ
letters_in zero l = 0
letters_in (suc n) [] = 0
letters_in (suc n) (c ∷ l) = cond (ends_word c) 0 (suc (letters_in n l))

-- d digits lead a field of n bytes: there is none, or something else follows
abbrev pub bad_digits : ℕ → ℕ → Bool
bad_digits d n = eqb d 0 || ltb d n

abbrev pub bad_address : ℕ → ℕ → Bool
bad_address d n = not (eqb d 8 && eqb n 8)

-- a field f that starts at place a of line l; x is what follows from it where its form is right
unfoldable pub decimal_fault : ℕ → List ℕ → List ℕ → Option Fault → Option Fault
decimal_fault a l f x =
    cond (bad_digits (digits_in 10 5 f) (length f)) (found Reason.Decimal (a + digits_in 10 5 f) l)
    (cond (leading_zero f) (found Reason.LeadingZero a l)
    x)

unfoldable pub address_fault : ℕ → List ℕ → List ℕ → Option Fault → Option Fault
address_fault a l f x = cond (bad_address (digits_in 16 8 f) (length f)) (found Reason.Address (a + digits_in 16 8 f) l) x

unfoldable pub bytes_fault : List ℕ → List ℕ → Option Fault → Option Fault
bytes_fault l h x =
    cond (bad_digits (digits_in 16 32 h) (length h)) (found Reason.Bytes (12 + digits_in 16 32 h) l)
    (cond (is_even (length h)) x
    (found Reason.Odd (12 + digits_in 16 32 h) l))

-- a size or a budget above 16,384
unfoldable pub limit_fault : Option ℕ → List ℕ → Option Fault
limit_fault None l = good
limit_fault (Some n) l = cond (leb n 16384) good (found Reason.TooLarge 4 l)

-- c bytes from an address on that are not inside memory of n bytes; its field starts at a
unfoldable pub away_fault : Option ℕ → ℕ → ℕ → List ℕ → ℕ → Option Fault
away_fault None c a l n = good
away_fault (Some x) c a l n = cond (eqb c 0 || leb (x + c) n) good (found Reason.Outside a l)

unfoldable pub count_fault : Option ℕ → Option ℕ → List ℕ → ℕ → Option Fault
count_fault x None l n = good
count_fault x (Some c) l n = away_fault x c 5 l n

-- a line of each kind; r are its fields beyond the word
abbrev pub number_fault : List ℕ → List ℕ → Option Fault
number_fault l r = decimal_fault 4 l r (limit_fault (decimal_of r) l)

abbrev pub put_fault : List ℕ → List ℕ → ℕ → Option Fault
put_fault l r n = address_fault 3 l (before_of r) (bytes_fault l (beyond_of r) (away_fault (address_of (before_of r)) (length (beyond_of r) / 2) 3 l n))

abbrev pub mark_fault : List ℕ → List ℕ → ℕ → Option Fault
mark_fault l r n = address_fault 5 l (before_of r) (decimal_fault 14 l (beyond_of r) (count_fault (address_of (before_of r)) (decimal_of (beyond_of r)) l n))

unfoldable pub first_fault : List ℕ → Option Fault
first_fault l = cond (same_of (before_of l) word_mem) (number_fault l (beyond_of l)) (found Reason.First (letters_in 4 l) l)

unfoldable pub body_fault : List ℕ → List ℕ → List ℕ → ℕ → Option Fault
body_fault l w r n =
    cond (same_of w word_at) (put_fault l r n)
    (cond (same_of w word_mark) (mark_fault l r n)
    (cond (same_of w word_run) (number_fault l r)
    (found Reason.Word (letters_in 4 l) l)))

-- of a line in each phase; that of the first bad line, f, stays
unfoldable pub fault_of : Phase → Option Fault → List ℕ → Option Fault
fault_of Phase.First f l = first_fault l
fault_of (Phase.Body n) f l = body_fault l (before_of l) (beyond_of l) n
fault_of (Phase.Done n b) f l = found Reason.AfterRun 0 l
fault_of Phase.Bad f l = f

-- at the end of the input, e if no line is unfinished: a fault of the input, at no place
abbrev pub early : Reason → Option Fault
early r = Some (record { reason = r; place = 0; byte = 0 })

unfoldable pub end_fault : Phase → Bool → Option Fault → Option Fault
end_fault Phase.First e f = early (cond e Reason.Missing Reason.Unended)
end_fault (Phase.Body n) e f = early (cond e Reason.Missing Reason.Unended)
end_fault (Phase.Done n b) e f = cond e good (early Reason.AfterRun)
end_fault Phase.Bad e f = f

abbrev pub why_of : Reader → Option Fault
why_of r = end_fault r.phase (eqb r.used 0) r.fault
