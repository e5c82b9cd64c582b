use Rattle.std.proofs.Common.{◌≡◌, length}
use Rattle.back_map.specs.Read.{heard_from}
use Rattle.back_map.proofs.Steps.{Reaches}
use Rattle.back_map.proofs.read_answer_text.hear.Given as goal

abbrev pub invariant-lines : goal.invariant-lines
invariant-lines l = record {
  reached : Reaches (λ n. heard_from n l.initial.scan.ahead) (λ n. heard_from n l.scan.ahead) l.initial.hearing l.hearing;
  last : l.scan.last ≡ l.initial.scan.last;
}

abbrev pub decreases-lines : goal.decreases-lines
decreases-lines l = length l.scan.ahead
