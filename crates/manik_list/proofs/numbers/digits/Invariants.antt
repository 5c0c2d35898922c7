use Rattle.std.proofs.Common.{◌≡◌, ◌^◌, ◌<◌, drop}
use Rattle.manik_list.specs.Numbers.{number_in, word_of}
use Rattle.manik_list.proofs.numbers.digits.Given as goal

abbrev pub invariant-loop-c : goal.invariant-loop-c
invariant-loop-c l = record { fits : l.v < 2 ^ 32; same : number_in l.base l.v (drop l.c-index l.word) ≡ word_of l.base l.word }
