-- Values of expressions, as bits, have 32 of them.
-- Assumes nothing.
use Rattle.std.specs.Prelude.{None, Option, Some, ℕ, Ok, Err}
use Prim.Native.Nat.{ℕ, zero, suc, ◌+◌, ◌-◌, ◌<◌}
use mathlib.Core.Path.{◌≡◌, refl, subst}
use mathlib.Core.Bool.{Bool, true, false, cond, ◌||◌}
use mathlib.Core.List.{List, [], ◌∷◌}
use native.Mathlib.Omega.{arith}
use lib.Dec.{ltb, leb, eqb}
use lib.IntN.{ℤ, pos, negsuc, ◌+ℤ◌, ◌-ℤ◌, ◌*ℤ◌}
use lib.ListN.{length, get_or, take, drop}
use lib.Signed.{lt_z}
use borrow.Author.Tests.{ltb-true, ltb-false}
use Rattle.text.specs.Digits.{digits_read, leading_zero}
use Rattle.expr.specs.Value.{fitted, applied, combined, signed_word, written}
use Rattle.expr.specs.Expr.{Labels, is_letter, run_of, key_of, index_of, meaning, onward, counted, is_hex, word_read, leaf_of, joined_of, chain_of, items_of, adds, multiplies, sign_of, signed_of, closed_of, plain_with, operand_with, product_with, sum_with, inside_of, sum_of, value_of}
use Rattle.expr.specs.Expr.{Read as Valued}
use Rattle.expr.specs.declared.Value.{Value}
use Rattle.expr.specs.declared.Fault.{Fault}
use Rattle.forms.specs.Form.{field_at}
use Rattle.forms.specs.Says.{bits_of}
use Rattle.asm.specs.Assemble.{sum_at, line_value, zero_read}
use Rattle.forms.specs.declared.Sort.{Sort}
use Rattle.forms.specs.declared.Shape.{Shape}

-- a value, if it is one, is in 32 bits
data Small : Value → Type 0 where
  is : {z : ℤ} → bits_of z < 4294967296 → Small (Value.Is z)
  large : Small Value.Large
  unknown : Small Value.Unknown

data Read : Valued → Type 0 where
  got : {v : Value} {n : ℕ} → Small v → Read (Ok (v, n))
  not : {e : Fault} → Read (Err e)

pick : (u : Bool) {a b : Value} → Small a → Small b → Small (cond u a b)
pick true p q = p
pick false p q = q

either : (u : Bool) {a b : Valued} → Read a → Read b → Read (cond u a b)
either true p q = p
either false p q = q

-- ---- values

below : (n : ℕ) → n < 4294967296 → Small (Value.Is (pos n))
unfolding bits_of
below n h = is {z = pos n} h

minus : (n : ℕ) → Small (Value.Is (negsuc n))
unfolding bits_of
minus n = is {z = negsuc n} (omega arith)

low : (n : ℕ) → Small (cond (ltb 2147483647 n) Value.Large (Value.Is (pos n)))
low n = go (ltb 2147483647 n) refl
  where
    go : (u : Bool) → ltb 2147483647 n ≡ u → Small (cond u Value.Large (Value.Is (pos n)))
    go true e = large
    go false e = let k = ltb-false 2147483647 n e in below n (omega arith)

fitted_small : (z : ℤ) → Small (fitted z)
unfolding fitted
fitted_small (pos n) = pick (lt_z (pos n) (negsuc 2147483647)) large (low n)
fitted_small (negsuc n) = pick (lt_z (negsuc n) (negsuc 2147483647)) large (pick (lt_z (pos 2147483647) (negsuc n)) large (minus n))

combined_small : (c : ℕ) (v w : Value) → Small (combined c v w)
unfolding combined applied
combined_small c Value.Unknown w = unknown
combined_small c Value.Large Value.Unknown = unknown
combined_small c Value.Large Value.Large = large
combined_small c Value.Large (Value.Is b) = large
combined_small c (Value.Is a) Value.Unknown = unknown
combined_small c (Value.Is a) Value.Large = large
combined_small c (Value.Is a) (Value.Is b) = pick (eqb c 42) (fitted_small (a *ℤ b)) (pick (eqb c 43) (fitted_small (a +ℤ b)) (fitted_small (a -ℤ b)))

word_small : (n : ℕ) → Small (Value.Is (signed_word n))
unfolding signed_word
word_small n = go (ltb n 2147483648) refl
  where
    go : (u : Bool) → ltb n 2147483648 ≡ u → Small (Value.Is (cond u (pos n) (negsuc (4294967295 - n))))
    go true e = let k = ltb-true n 2147483648 e in below n (omega arith)
    go false e = minus (4294967295 - n)

-- ---- what is read

onward_small : (r : Valued) (f : Value → ℕ → Valued) → Read r → ((v : Value) (n : ℕ) → Small v → Read (f v n)) → Read (onward r f)
unfolding onward
onward_small (Ok (v, n)) f (got p) k = k v n p
onward_small (Err e) f p k = not

counted_small : (n : ℕ) (d : Option ℕ) → Read (counted n d)
unfolding counted written
counted_small n (Some v) = got (low v)
counted_small n None = not

joined_small : (c : ℕ) (v : Value) (r : Valued) → Read (joined_of c v r)
unfolding joined_of
joined_small c v (Ok (w, n)) = got (combined_small c v w)
joined_small c v (Err e) = not

signed_small : (k : ℕ) (r : Valued) → Read r → Read (signed_of k r)
unfolding signed_of
signed_small k (Ok (v, n)) p = either (eqb k 0) p (got (combined_small 45 (Value.Is (pos 0)) v))
signed_small k (Err e) p = not

closed_small : (s : List ℕ) (r : Valued) → Read r → Read (closed_of s r)
unfolding closed_of
closed_small s (Ok (v, n)) (got p) = either (eqb (get_or s n 0) 41) (got p) not
closed_small s (Err e) p = not

module _ (t : Labels) where
  leaf_small : (s : List ℕ) → Read (leaf_of t s)
  unfolding leaf_of word_read meaning
  leaf_small s = go (take (run_of s) s)
    where
      means : (k : ℕ) → Small (meaning t k)
      means k = pick (ltb (index_of t.keys k) (length t.keys)) (word_small (get_or t.places (index_of t.keys k) 0)) unknown

      go : (w : List ℕ) → Read (word_read t w)
      go w =
          either (is_letter (get_or w 0 0)) (either (leb (length w) 12) (got (means (key_of w))) not)
          (either (is_hex w) (counted_small (length w) (digits_read 16 0 (drop 2 w)))
          (either (eqb (length w) 0 || leading_zero w) not (counted_small (length w) (digits_read 10 0 w))))

  module _ (joins : ℕ → Bool) (item : List ℕ → Valued) where
    chain_small : (v : Value) (n k : ℕ) (s : List ℕ) → Small v → Read (chain_of joins item v n k s)
    unfolding chain_of
    chain_small v n k [] p = got p
    chain_small v n (suc k) (c ∷ s) p = chain_small v n k s p
    chain_small v n zero (c ∷ s) p =
        either (joins c) (onward_small (joined_of c v (item s)) _ (joined_small c v (item s)) (λ x m q. chain_small x (n + 1 + m) m s q)) (got p)

    items_small : ((s : List ℕ) → Read (item s)) → (s : List ℕ) → Read (items_of joins item s)
    unfolding items_of
    items_small h s = onward_small (item s) _ (h s) (λ v n p. chain_small v n n s p)

  sum_small : (inside : List ℕ → Valued) → ((s : List ℕ) → Read (inside s)) → (s : List ℕ) → Read (sum_with inside t s)
  unfolding sum_with product_with operand_with plain_with
  sum_small inside h = items_small adds (product_with inside t) (items_small multiplies (operand_with inside t) operand)
    where
      plain : (s : List ℕ) → Read (plain_with inside t s)
      plain s = either (eqb (get_or s 0 0) 40) (closed_small (drop 1 s) (inside (drop 1 s)) (h (drop 1 s))) (leaf_small s)

      operand : (s : List ℕ) → Read (operand_with inside t s)
      operand s = signed_small (sign_of s) (plain_with inside t (drop (sign_of s) s)) (plain (drop (sign_of s) s))

  inside_small : (more : ℕ) (s : List ℕ) → Read (inside_of t more s)
  unfolding inside_of
  inside_small zero s = not
  inside_small (suc more) s = sum_small (inside_of t more) (inside_small more) s

  sort_small : (o : Sort) (f : List ℕ) (r : Valued) → Read r → Read (sum_at t o f r)
  unfolding sum_at value_of sum_of
  sort_small Sort.Nothing f r p = p
  sort_small Sort.Never f r p = p
  sort_small Sort.Reg f r p = p
  sort_small Sort.Sfr f r p = p
  sort_small Sort.LowSfr f r p = p
  sort_small Sort.Sum f r p = sum_small (inside_of t 8) (inside_small 8) f

  line_small : (o : Shape) (b : List ℕ) → Read (line_value t o b)
  unfolding line_value
  line_small o b = sort_small o.first (field_at 2 b) _ (sort_small o.second (field_at 3 b) zero_read (got (below 0 (omega arith))))

value_of_lem : {z : ℤ} {n : ℕ} → Read (Ok (Value.Is z, n)) → bits_of z < 4294967296
value_of_lem (got (is h)) = h

pub in_32_bits : (t : Labels) (o : Shape) (b : List ℕ) (z : ℤ) (n : ℕ) → line_value t o b ≡ Ok (Value.Is z, n) → bits_of z < 4294967296
in_32_bits t o b z n e = value_of_lem (subst Read e (line_small t o b))
