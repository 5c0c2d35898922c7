use Rattle.std.proofs.Common.{◌≡◌, get_or, rules, arith}
use Rattle.forms.proofs.Registers.{other_letter, one_digit, two_digits}
use Rattle.forms.proofs.shapes.register.Goals as goal

pub returns-in-114 : goal.returns-in-114
returns-in-114 c =
    let e : get_or c.args.field.now 0 0 ≡ 114 = search rules in
    one_digit c.args.field.now _ (omega arith) e c.digit_below.ensures

pub returns-in-len2 : goal.returns-in-len2
returns-in-len2 c = other_letter c.args.field.now (omega arith) (λ e. absurd (search rules))

pub returns-in-114-2 : goal.returns-in-114-2
returns-in-114-2 c =
    let e : get_or c.args.field.now 0 0 ≡ 114 = search rules in
    let g : get_or c.args.field.now 1 0 ≡ 49 = search rules in
    two_digits c.args.field.now _ (omega arith) e g c.digit_below-in-114-2.ensures

pub returns-in-49 : goal.returns-in-49
returns-in-49 c = other_letter c.args.field.now (omega arith) (λ e. absurd (search rules))
