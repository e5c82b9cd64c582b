-- The links of the rules fit, and one pass over them adds up the costs of the rules.
use Rattle.std.proofs.Common.{◌≡◌, ℕ, ◌≤◌, length, get_or, arith, ◌∙◌}
use Rattle.std.proofs.lemmas.Result.{IfOk-weaker}
use Rattle.components.specs.private.Adding.{run}
use Rattle.components.proofs.SumLaws.{links-kept, sums-kept}
use Rattle.components.proofs.finding.added_over.Goals as goal

pub added-requires-clause-links : goal.added-requires-clause-links
added-requires-clause-links c = links-kept c.args.atoms.now c.args.parts.now.numbers c.numbers.result.now c.args.costs.now c.args.edges.now c.args.rules.now c.numbers.ensures c.requires.costs c.requires.edges c.requires.sized c.requires.fit

pub returns-clause-sums : goal.returns-clause-sums
returns-clause-sums c =
    let count : c.count.result ≡ c.args.parts.now.count = c.count.ensures in
    IfOk-weaker c.added.result (λ sums. (i : ℕ) → i ≤ c.count.result → get_or sums.items i 0 ≡ (run (length c.numbers.result.now) c.args.each i c.numbers.result.now c.args.costs.now c.args.edges.now (0, 0)).1) _
    (λ weights sums cost is i low. sums i (omega arith) ∙ sums-kept c.args.atoms.now c.args.parts.now.numbers c.numbers.result.now c.args.costs.now c.args.edges.now cost c.args.each c.args.rules.now c.numbers.ensures is c.requires.edges c.requires.sized c.requires.fit i)
    c.added.ensures.sums
