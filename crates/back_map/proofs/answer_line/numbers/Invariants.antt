use Rattle.std.proofs.Common.{◌≡◌, length}
use Rattle.asp_scan.specs.Tokens.{tokens}
use Rattle.back_map.specs.Read.{with_numbers}
use Rattle.back_map.proofs.Steps.{Reaches}
use Rattle.back_map.proofs.answer_line.numbers.Given as goal

abbrev pub invariant-numbers : goal.invariant-numbers
invariant-numbers l = record {
  reached : Reaches (λ n. with_numbers n (tokens l.initial.scan.left)) (λ n. with_numbers n (tokens l.scan.left)) l.initial.hearing l.hearing;
  rest : l.scan ≡ record l.initial.scan { left = l.scan.left };
}

abbrev pub decreases-numbers : goal.decreases-numbers
decreases-numbers l = length l.scan.left
