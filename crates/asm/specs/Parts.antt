-- Words that only helpers' contracts cite.
-- Assumes nothing.
use Rattle.std.specs.Prelude.{ℕ, Bool, true, false, cond, ◌&&◌, ◌||◌, List, [], ◌∷◌, length, Err, Result}
use Rattle.word.specs.declared.ByteAddr.{ByteAddr}
use Rattle.expr.specs.Expr.{Labels}
use Rattle.forms.specs.Form.{body_of, shape_of, is_known_as, is_known}
use Rattle.forms.specs.declared.Sort.{Sort}
use Rattle.forms.specs.declared.What.{What}
use Rattle.asm.specs.Assemble.{address_of, line_value, label_in, label_check, value_check, verdict_of, code_of, Answered, answered, image_after}
use Rattle.asm.specs.declared.Refusal.{Refusal}

-- lines x from s on, with the labels t, where s is not outside the image
unfoldable pub assembled_with : Labels → List (List ℕ) → ℕ → List ℕ → Answered
assembled_with t x s m =
    answered (verdict_of t [] s (length m) 0 x) (image_after (verdict_of t [] s (length m) 0 x) (code_of t (address_of s) x) s m)

-- an expression stands there
abbrev pub takes_sum : Sort → Bool
takes_sum Sort.Nothing = false
takes_sum Sort.Never = false
takes_sum Sort.Reg = false
takes_sum Sort.Sfr = false
takes_sum Sort.LowSfr = false
takes_sum Sort.Sum = true

-- ---- where the form is known

-- every line is of known form
unfoldable pub all_known : List (List ℕ) → Bool
all_known [] = true
all_known (l ∷ r) = is_known l && all_known r

-- a line's check, where the form may be sure already
unfoldable pub check_sure : Bool → Labels → List ℕ → ByteAddr → Result Unit Refusal → What → List ℕ → Result Unit Refusal
check_sure sure t s a y w l =
    cond (sure || is_known_as w l)
    (value_check w a (body_of l) (label_check s (label_in l)) y (line_value t (shape_of w) (body_of l)))
    (Err Refusal.Form)
