-- The answer for a listing that is assembled again, and the image after it.
-- Assumes nothing.
use Rattle.std.specs.Prelude.{Ok}
use Prim.Native.Nat.{ℕ, ◌+◌, ◌-◌, ◌%◌, ◌≤◌}
use mathlib.Core.Path.{◌≡◌, sym, ap, ap₂, ◌∙◌}
use mathlib.Core.Bool.{false}
use mathlib.Core.List.{List, [], ◌++◌, append_assoc}
use native.Mathlib.Omega.{arith}
use lib.ListN.{length, take, drop, length-drop, take-append-drop}
use lib.Seq.{sets-eq, drop-drop, length-take-le}
use borrow.Author.Tests.{le-ltb, ne_eqb}
use Rattle.text.specs.Pages.{Page, page, write_on}
use Rattle.text.proofs.Pages.{written_at}
use Rattle.listing.specs.Lent.{is_out_of}
use Rattle.listing.specs.Listing.{entries_in}
use Rattle.listing.specs.Parts.{Good}
use Rattle.listing.proofs.Lent.{good}
use Rattle.columns.specs.Columns.{Bytes, bytes_read}
use Rattle.columns.proofs.Theorems.{bits_give_back, bits_second}
use Rattle.expr.specs.Expr.{Labels, none}
use Rattle.forms.specs.Form.{lines_of}
use Rattle.asm.specs.Assemble.{address_of, labels_of, code_of, text_labels, answered, verdict_of, verdict_in, assembled_of}
use Rattle.asm.specs.Assemble.{Assembled}
use Rattle.reassembly.specs.Lines.{text_for}
use Rattle.reassembly.proofs.Entries.{lines_for, lines_of_lem}
use Rattle.reassembly.proofs.Whole.{address_of_lem, labels_none, verdict_done, code_bytes}

-- a text that has room is written in its place
put_in : (t l : List ℕ) (s e : ℕ) → s + length t ≡ e → e ≤ length l → (write_on t (page l s)).text ≡ take s l ++ (t ++ drop e l)
put_in t l s e q h =
    ap (λ (p : Page). p.text) (written_at t l s (omega arith)) ∙ sets-eq t l s (omega arith) ∙ append_assoc (take s l) t (drop (s + length t) l)
    ∙ ap (λ (k : ℕ). take s l ++ (t ++ drop k l)) q

-- three parts of a list
parts : (l : List ℕ) (s e : ℕ) → s ≤ e → take s l ++ (take (e - s) (drop s l) ++ drop e l) ≡ l
parts l s e h =
    let z : s + (e - s) ≡ e = omega arith in
    ap (λ (r : List ℕ). take s l ++ r)
    (ap (λ (r : List ℕ). take (e - s) (drop s l) ++ r) (sym (drop-drop (e - s) s l ∙ ap (λ (k : ℕ). drop k l) z)) ∙ take-append-drop (e - s) (drop s l))
    ∙ take-append-drop s l

module _ (m : List ℕ) (s e : ℕ) (bytes : Bytes m) (ok : is_out_of (length m) s e ≡ false) where
  g : Good (length m) s e
  g = good (length m) s e ok

  low : e ≤ 65536
  low = let a = g.limit in let b = g.inside in omega arith

  start : address_of s ≡ record { 0 = s }
  start = let a = low in let b = g.order in address_of_lem s (omega arith)

  abbrev text : List ℕ
  text = text_for m s e

  lines : lines_of text ≡ lines_for (entries_in m s e)
  lines = lines_of_lem (entries_in m s e)

  pub code_is : (t : Labels) → code_of t (address_of s) (lines_of text) ≡ take (e - s) (drop s m)
  code_is t =
      ap₂ (code_of t) start lines
      ∙ code_bytes m bytes e low g.end s g.order g.start t
      ∙ ap bytes_read (sym (bits_second (entries_in m s e))) ∙ bits_give_back m s e ok bytes

  pub labels_are : text_labels text s ≡ none
  labels_are = ap₂ (labels_of none) start lines ∙ labels_none m bytes e low g.end s g.order g.start none

  pub verdict_is : (n : ℕ) → e ≤ n → verdict_in text s n ≡ Ok (length (entries_in m s e), e)
  unfolding verdict_in
  verdict_is n h =
      let p = g.start in
      let o = g.order in
      let z : 0 + length (entries_in m s e) ≡ length (entries_in m s e) = omega arith in
      rw (ne_eqb (s % 2) 1 (λ q. omega arith), le-ltb n s (omega arith))
      (ap (verdict_of (text_labels text s) [] s n 0) lines
      ∙ verdict_done m bytes e low g.end s o p (text_labels text s) [] n h 0 ∙ ap (λ (k : ℕ). Ok (k, e)) z)

  listed_length : s + length (take (e - s) (drop s m)) ≡ e
  listed_length =
      let a = g.inside in
      let b = g.order in
      let k : length (drop s m) ≡ length m - s = length-drop s m in
      let z : length (take (e - s) (drop s m)) ≡ e - s = length-take-le (e - s) (drop s m) (omega arith) in
      omega arith

  pub assembled_is : (n : List ℕ) → e ≤ length n
      → assembled_of text s n ≡ answered (Ok (length (entries_in m s e), e)) (take s n ++ (take (e - s) (drop s m) ++ drop e n))
  unfolding assembled_of
  assembled_is n h =
      rw (verdict_is (length n) h, code_is (text_labels text s))
      (ap (answered (Ok (length (entries_in m s e), e))) (put_in (take (e - s) (drop s m)) n s e listed_length h))

  pub assembled_again : assembled_of text s m ≡ answered (Ok (length (entries_in m s e), e)) m
  assembled_again =
      assembled_is m g.inside ∙ ap (answered (Ok (length (entries_in m s e), e))) (parts m s e g.order)
