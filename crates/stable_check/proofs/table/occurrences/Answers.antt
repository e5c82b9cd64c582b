use Rattle.std.proofs.Common.{◌≡◌, ◌∙◌, ap, drop, length, ◌+◌, arith}
use Rattle.stable_check.specs.private.Lack.{weighed}
use Rattle.stable_check.specs.private.Links.{Table, with_rules}
use Rattle.stable_check.proofs.GrowthLaws.{length-with_items, with_rules-next}
use Rattle.stable_check.proofs.table.occurrences.Goals as goal

pub loop-n-preserved : goal.loop-n-preserved
loop-n-preserved c =
    let new : c.add_rule.new.table ≡ record { rules = c.loop-n.table.rules; rows = _ } = c.in_ok-add_rule.ensures in
    record {
      rules = ap (λ (t : Table). t.rules) new ∙ c.loop-n.invariant.rules;
      same = ap (λ (t : Table). length t.rows) new ∙ length-with_items c.args.atoms.now c.loop-n.n (weighed c.index-rules-n.result.body) c.loop-n.table.rows ∙ c.loop-n.invariant.same;
      rest = ap (λ (t : Table). with_rules c.args.atoms.now (c.loop-n.n + 1) (drop (c.loop-n.n + 1) c.args.rules.now) t.rows) new
          ∙ with_rules-next c.args.atoms.now c.args.rules.now c.loop-n.n c.index-rules-n.result c.loop-n.table.rows (omega arith) c.index-rules-n.is
          ∙ c.loop-n.invariant.rest;
    }
