-- Values of expressions (document 02, ticket 4): "All values, inner ones too, fit in 32 signed bits".
-- Assumes nothing.
use Rattle.std.specs.Prelude.{ℕ, ◌-◌, cond, ltb, eqb, ℤ, pos, negsuc, ◌+ℤ◌, ◌-ℤ◌, ◌*ℤ◌}
use Rattle.std.specs.Int.Signed.{lt_z}
use Rattle.expr.specs.declared.Value.{Value}

-- a value, if it fits
unfoldable pub fitted : ℤ → Value
fitted z = cond (lt_z z (negsuc 2147483647)) Value.Large (cond (lt_z (pos 2147483647) z) Value.Large (Value.Is z))

-- what a byte between two values makes of them: `*`, `+`, and `-`
unfoldable pub applied : ℕ → ℤ → ℤ → Value
applied c a b = cond (eqb c 42) (fitted (a *ℤ b)) (cond (eqb c 43) (fitted (a +ℤ b)) (fitted (a -ℤ b)))

-- the same of what has no value: an unknown label is told (refusal 32) before a value that doesn't fit (35)
unfoldable pub combined : ℕ → Value → Value → Value
combined c Value.Unknown b = Value.Unknown
combined c Value.Large Value.Unknown = Value.Unknown
combined c Value.Large Value.Large = Value.Large
combined c Value.Large (Value.Is b) = Value.Large
combined c (Value.Is a) Value.Unknown = Value.Unknown
combined c (Value.Is a) Value.Large = Value.Large
combined c (Value.Is a) (Value.Is b) = applied c a b

-- "one unary minus": 0 less the value
abbrev pub negated : Value → Value
negated v = combined 45 (Value.Is (pos 0)) v

-- 32 bits read as a signed value: a label's address
unfoldable pub signed_word : ℕ → ℤ
signed_word n = cond (ltb n 2147483648) (pos n) (negsuc (4294967295 - n))

-- a number as written
unfoldable pub written : ℕ → Value
written n = cond (ltb 2147483647 n) Value.Large (Value.Is (pos n))
