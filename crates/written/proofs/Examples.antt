-- Worked examples: a label, a jump to it, and data; the same with data that two bytes cannot hold; the edges of a short jump and of ldrpc.
-- Assumes nothing.
use Rattle.std.specs.Prelude.{Ok, Err}
use Prim.Native.Nat.{ℕ}
use Prim.Native.String.{String}
use mathlib.Core.Path.{◌≡◌, refl}
use mathlib.Core.List.{List, [], ◌∷◌, ◌++◌}
use Rattle.text.specs.Words.{ascii}
use Rattle.text.specs.Digits.{digits_read, value_of as worth}
use Rattle.text.specs.Fields.{tab_of, same_of}
use Rattle.text.specs.Pages.{write_on}
use Rattle.isa.specs.Codes.{kind_of}
use Rattle.isa.specs.Encode.{encode_of, nibs_of, nibs_byte, encode_short, encode_long}
use Rattle.listing.specs.Names.{names, letters_in, name_at}
use Rattle.expr.specs.Value.{fitted, applied, combined, signed_word, written}
use Rattle.expr.specs.Expr.{run_of, key_from, index_of, meaning, size_of, onward, counted, word_read, leaf_of, joined_of, chain_of, items_of, sign_of, signed_of, closed_of, plain_with, operand_with, product_with, sum_with, inside_of, sum_of, value_of, is_whole, is_sum}
use Rattle.forms.specs.Form.{onto_first, lines_of, tabs_in, field_at, named_from, mnemonics, byte_of, what_at, what_of, kind_shape, shape_of, numbered_of, number_at, is_of, fits_shape, is_known_body, is_known_as}
use Rattle.forms.specs.Says.{bits_of, halves_to, words_to, says_of, bits_said, bits_at, bytes_in}
use Rattle.asm.specs.Assemble.{sum_at, line_value, line_bits, with_name, with_label, label_for, bytes_for, labels_of, label_check, value_check, line_check, room_check, verdict_of, value_in, line_bytes, code_of, answered, verdict_in, assembled_of}
use Rattle.asm.specs.declared.Refusal.{Refusal}
use Rattle.asm.specs.Assemble.{Assembled}

abbrev loop : String → List ℕ
loop value = ascii "top\tadd\tr2\tr15\n\tj\ttop\n\thalf\t" ++ ascii value

abbrev before : List ℕ
before = 0 ∷ 1 ∷ 2 ∷ 3 ∷ 4 ∷ 5 ∷ 6 ∷ 7 ∷ 8 ∷ 9 ∷ 10 ∷ []

an_example : (assembled_of (loop "0xfc00\n") 2 before ≡ answered (Ok (3, 10)) (0 ∷ 1 ∷ 0x21 ∷ 0x2f ∷ 0xf3 ∷ 0xff ∷ 0xff ∷ 0xff ∷ 0xfc ∷ 0x00 ∷ 10 ∷ []))
    × (assembled_of (loop "0x10000\n") 2 before ≡ answered (Err (Refusal.Value, 3)) before)
unfolding assembled_of verdict_in verdict_of line_check value_check label_check room_check line_value sum_at line_bits line_bytes value_in code_of labels_of with_name with_label label_for bytes_for lines_of onto_first tabs_in field_at named_from mnemonics byte_of what_at what_of kind_shape shape_of numbered_of number_at is_of fits_shape is_known_body is_known_as bits_of halves_to says_of bits_said bits_at bytes_in encode_of nibs_of encode_long kind_of names letters_in name_at tab_of same_of digits_read worth write_on run_of key_from index_of meaning size_of onward counted word_read leaf_of joined_of chain_of items_of sign_of signed_of closed_of plain_with operand_with product_with sum_with inside_of sum_of value_of is_whole is_sum signed_word written
an_example = (refl, refl)

-- one line at s in an image of eight bytes
abbrev answer_at : ℕ → String → Assembled
answer_at s line = (assembled_of (ascii line) s (0 ∷ 0 ∷ 0 ∷ 0 ∷ 0 ∷ 0 ∷ 0 ∷ 0 ∷ [])).assembled

short_jump_edges : (answer_at 0 "\tsj\t1022\n" ≡ Ok (1, 2))
    × (answer_at 0 "\tsj\t1024\n" ≡ Err (Refusal.Value, 1))
    × (answer_at 0 "\tsj\t-1024\n" ≡ Ok (1, 2))
    × (answer_at 0 "\tsj\t-1026\n" ≡ Err (Refusal.Value, 1))
    × (answer_at 2 "\tsj\t1024\n" ≡ Ok (1, 4))
    × (answer_at 2 "\tsj\t1\n" ≡ Err (Refusal.Value, 1))
unfolding assembled_of verdict_in verdict_of line_check value_check label_check room_check line_value sum_at line_bits line_bytes value_in code_of labels_of with_name with_label label_for bytes_for lines_of onto_first tabs_in field_at named_from mnemonics byte_of what_at what_of kind_shape shape_of numbered_of number_at is_of fits_shape is_known_body is_known_as bits_of halves_to says_of bits_said bits_at bytes_in encode_of nibs_of encode_long kind_of names letters_in name_at tab_of same_of digits_read worth write_on run_of key_from index_of meaning size_of onward counted word_read leaf_of joined_of chain_of items_of sign_of signed_of closed_of plain_with operand_with product_with sum_with inside_of sum_of value_of is_whole is_sum signed_word written encode_short combined applied fitted
short_jump_edges = (refl, refl, refl, refl, refl, refl)

ldrpc_edges : (answer_at 2 "\tldrpc\tr1\t0\n" ≡ Ok (1, 4))
    × (answer_at 2 "\tldrpc\tr1\t1020\n" ≡ Ok (1, 4))
    × (answer_at 2 "\tldrpc\tr1\t1024\n" ≡ Err (Refusal.Value, 1))
    × (answer_at 4 "\tldrpc\tr1\t1024\n" ≡ Ok (1, 6))
    × (answer_at 4 "\tldrpc\tr1\t0\n" ≡ Err (Refusal.Value, 1))
    × (answer_at 2 "\tldrpc\tr1\t6\n" ≡ Err (Refusal.Value, 1))
unfolding assembled_of verdict_in verdict_of line_check value_check label_check room_check line_value sum_at line_bits line_bytes value_in code_of labels_of with_name with_label label_for bytes_for lines_of onto_first tabs_in field_at named_from mnemonics byte_of what_at what_of kind_shape shape_of numbered_of number_at is_of fits_shape is_known_body is_known_as bits_of halves_to says_of bits_said bits_at bytes_in encode_of nibs_of encode_long kind_of names letters_in name_at tab_of same_of digits_read worth write_on run_of key_from index_of meaning size_of onward counted word_read leaf_of joined_of chain_of items_of sign_of signed_of closed_of plain_with operand_with product_with sum_with inside_of sum_of value_of is_whole is_sum signed_word written nibs_byte words_to
ldrpc_edges = (refl, refl, refl, refl, refl, refl)
