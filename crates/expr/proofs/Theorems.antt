-- What the definitions say: the equations of the grammar, parentheses, names, depth, and worked examples.
-- Assumes nothing.
use Rattle.std.specs.Prelude.{Ok, Err}
use Prim.Native.Nat.{ℕ, suc, ◌+◌, ◌^◌, ◌<◌, ◌≤◌}
use Prim.Native.String.{String}
use mathlib.Core.Logic.{◌⊎◌, inl, inr}
use mathlib.Core.Path.{◌≡◌, refl, ◌∙◌}
use mathlib.Core.Bool.{true}
use mathlib.Core.List.{List, [], ◌∷◌, ◌++◌}
use native.Mathlib.Omega.{arith}
use borrow.Author.Tests.{ne_eqb}
use lib.IntN.{pos, negsuc}
use lib.ListN.{length, get_or, length-append}
use lib.Seq.{get_or-append_seam}
use Rattle.text.specs.Words.{ascii}
use Rattle.text.specs.Digits.{value_of as worth, digits_read}
use Rattle.expr.specs.declared.Value.{Value}
use Rattle.expr.specs.declared.Fault.{Fault}
use Rattle.expr.specs.Expr.{Read}
use Rattle.expr.specs.Value.{fitted, applied, combined, signed_word, written}
use Rattle.expr.specs.Expr.{Labels, labels, none, run_of, key_from, key_of, is_name, index_of, meaning, onward, counted, word_read, leaf_of, joined_of, chain_of, items_of, adds, multiplies, sign_of, signed_of, closed_of, plain_with, operand_with, product_with, sum_with, inside_of, operand_of, product_of, sum_of, value_of, is_whole, is_sum}
use Rattle.expr.proofs.Laws.{unsigned, items_all}
use Rattle.expr.proofs.Names.{key_below, key_some, key_fits, key_differs, name_parts}
use Rattle.expr.proofs.Alike.{like, any, deep, sum_still, sum_form}

-- ---- the grammar

module _ (t : Labels) (more : ℕ) (s : List ℕ) where
  -- a sum is products, parted by + and -
  pub sum_of_products : sum_of t more s ≡ items_of adds (product_of t more) s
  unfolding sum_of sum_with product_of
  sum_of_products = refl

  -- a product is operands, parted by *
  pub product_of_operands : product_of t more s ≡ items_of multiplies (operand_of t more) s
  unfolding product_of product_with operand_of
  product_of_operands = refl

  -- after ( stands a sum, of which one parenthesis fewer may open
  pub operand_opens : operand_of t (suc more) (40 ∷ s) ≡ closed_of s (sum_of t more s)
  unfolding operand_of operand_with plain_with sign_of inside_of sum_of
  operand_opens = unsigned (closed_of s (sum_with (inside_of t more) t s))

  -- and so after -(
  pub operand_minus_opens : operand_of t (suc more) (45 ∷ 40 ∷ s) ≡ signed_of 1 (closed_of s (sum_of t more s))
  unfolding operand_of operand_with plain_with sign_of inside_of sum_of
  operand_minus_opens = refl

  -- where none may open, ( is too deep
  pub operand_deep : operand_of t 0 (40 ∷ s) ≡ Err Fault.Deep
  unfolding operand_of operand_with plain_with sign_of inside_of signed_of closed_of
  operand_deep = refl

  -- without ( and - an operand is a number or a label
  pub operand_leaf : (get_or s 0 0 ≡ 40 → ⊥) → (get_or s 0 0 ≡ 45 → ⊥) → operand_of t more s ≡ leaf_of t s
  unfolding operand_of operand_with plain_with sign_of
  operand_leaf f g = rw (ne_eqb _ _ g, ne_eqb _ _ f) (unsigned (leaf_of t s))

  -- and one minus may stand before it
  pub operand_minus_leaf : (get_or s 0 0 ≡ 40 → ⊥) → operand_of t more (45 ∷ s) ≡ signed_of 1 (leaf_of t s)
  unfolding operand_of operand_with plain_with sign_of
  operand_minus_leaf f = rw (ne_eqb _ _ f)

-- parentheses round a whole expression do not change its value
pub parentheses : (t : Labels) (more : ℕ) (s : List ℕ) (v : Value) → sum_of t more s ≡ Ok (v, length s) → sum_of t (suc more) ((40 ∷ s) ++ (41 ∷ [])) ≡ Ok (v, length s + 2)
unfolding closed_of
parentheses t more s v e =
    sum_of_products t (suc more) _ ∙ items_all adds (product_of t (suc more)) _ v (length s + 2) long
    (product_of_operands t (suc more) _ ∙ items_all multiplies (operand_of t (suc more)) _ v (length s + 2) long (operand_opens t more _ ∙ inner))
  where
    long : length ((40 ∷ s) ++ (41 ∷ [])) ≤ length s + 2
    long = rw length-append (omega arith)

    inner : closed_of (s ++ (41 ∷ [])) (sum_of t more (s ++ (41 ∷ []))) ≡ Ok (v, length s + 2)
    inner = rw (sum_still t more s [] v (length s) e, get_or-append_seam s 41 [] 0)

-- ---- names

-- names that differ have different numbers
pub names_differ : (a b : List ℕ) → is_name a ≡ true → is_name b ≡ true → key_of a ≡ key_of b → a ≡ b
names_differ a b p q e = key_differs a b (name_parts a p).1 (name_parts b q).1 e

-- a name's number is not 0 and has at most 63 bits
pub name_number : (a : List ℕ) → is_name a ≡ true → (0 < key_of a) × (key_of a < 2 ^ 63)
name_number a e =
    let n = name_parts a e in
    (key_some a n.0 n.1, key_fits (key_of a) (0 + length a) (key_below a 0 0 n.1 (omega arith)) (omega arith))

-- ---- depth

-- a sum is read whole or is too deep, and nothing else, whatever its labels mean and however many parentheses may open
pub only_depth : (s : List ℕ) → is_sum s ≡ true → (t : Labels) (more : ℕ) → (sum_of t more s ≡ Err Fault.Deep) ⊎ (is_whole s (sum_of t more s) ≡ true)
unfolding is_sum is_whole
only_depth s e t more = go (sum_of none (length s) s) (sum_of t more s) e (sum_form t more s)
  where
    go : (x y : Read) → is_whole s x ≡ true → like any deep s x y → (y ≡ Err Fault.Deep) ⊎ (is_whole s y ≡ true)
    go (Err f) y p h = absurd (let z : ◌≡◌ {A = ℕ} 0 1 = cc in omega arith)
    go (Ok (v, n)) (Err Fault.Deep) p h = inl refl
    go (Ok (v, n)) (Err Fault.Form) p h = absurd h
    go (Ok (v, n)) (Ok (w, m)) p (a, b, c) = inr (rw b p)

-- ---- examples

-- all of a text has a value, where there are no labels
abbrev says : String → Value → Type 0
says s v = value_of none (ascii s) ≡ Ok (v, length (ascii s))

abbrev is : String → ℕ → Type 0
is s n = says s (Value.Is (pos n))

-- * before + and -, those from the left, and one minus before an operand (`negsuc n` is -1 less n)
pub example_order : is "2+3*4" 14 × is "10-3-2" 5 × is "2*3+4" 10 × is "3--1" 4 × says "-2*3" (Value.Is (negsuc 5)) × says "-(1+2)*3" (Value.Is (negsuc 8))
unfolding fitted applied combined signed_word written worth digits_read run_of key_from index_of meaning onward counted word_read leaf_of joined_of chain_of items_of sign_of signed_of closed_of plain_with operand_with product_with sum_with inside_of sum_of value_of
example_order = (refl, refl, refl, refl, refl, refl)

-- numbers, and values that do not fit in 32 signed bits
pub example_size : is "0x00ff" 255 × says "2147483648" Value.Large × says "-2147483648" Value.Large × says "-2147483647-1" (Value.Is (negsuc 2147483647))
unfolding fitted applied combined signed_word written worth digits_read run_of key_from index_of meaning onward counted word_read leaf_of joined_of chain_of items_of sign_of signed_of closed_of plain_with operand_with product_with sum_with inside_of sum_of value_of
example_size = (refl, refl, refl, refl)

-- an unknown label is told before a value that does not fit, on either side; a label that is known has its place's value
pub example_label : says "nolabel+99999999999" Value.Unknown × says "99999999999+nolabel" Value.Unknown × (value_of (labels (key_of (ascii "loop") ∷ []) (4294967292 ∷ [])) (ascii "8+loop") ≡ Ok (Value.Is (pos 4), 6))
unfolding fitted applied combined signed_word written worth digits_read run_of key_from index_of meaning onward counted word_read leaf_of joined_of chain_of items_of sign_of signed_of closed_of plain_with operand_with product_with sum_with inside_of sum_of value_of
example_label = (refl, refl, refl)

-- eight parentheses may be open, and not nine; the form is a sum's all the same
pub example_depth : is "((((((((1))))))))" 1 × (value_of none (ascii "(((((((((1)))))))))") ≡ Err Fault.Deep) × (is_sum (ascii "(((((((((1)))))))))") ≡ true)
unfolding fitted applied combined signed_word written worth digits_read run_of key_from index_of meaning onward counted word_read leaf_of joined_of chain_of items_of sign_of signed_of closed_of plain_with operand_with product_with sum_with inside_of sum_of value_of is_whole is_sum
example_depth = (refl, refl, refl)
