use Rattle.std.proofs.Common.{◌≡◌, ◌∙◌, ap, subst₂, ◌-◌, get_or, length, arith}
use Rattle.std.specs.List.{slice_range}
use Rattle.clause_store.specs.Stored.{Stored, with_clauses}
use Rattle.completion.specs.private.Definitions.{clauses_by, bodies_at, clauses_up_to}
use Rattle.completion.proofs.DefinitionLaws.{clauses-more}
use Rattle.completion.proofs.clauses.add_grouped.Goals as goal

pub loop-variable-preserved : goal.loop-variable-preserved
loop-variable-preserved c =
    let v = c.loop-variable.variable in
    record {
      store = clauses-more c.args.groups.now.starts c.args.groups.now.values c.args.literals.now c.args.store.now c.loop-variable.store c.add_definition.new.store
          v (omega arith) c.loop-variable.invariant.store
          (subst₂ (λ starts values. c.add_definition.new.store ≡ with_clauses (clauses_by v (bodies_at c.args.literals.now (slice_range values (get_or starts (v - 1) 0) (get_or starts v 0)))) c.loop-variable.store)
          c.as_slice-starts.ensures c.as_slice-values.ensures c.in_ok-add_definition.ensures);
      vars = ap (λ (s : Stored). s.vars) c.in_ok-add_definition.ensures ∙ c.loop-variable.invariant.vars;
    }

pub returns : goal.returns
returns c =
    let all : c.loop-variable.variable - 1 ≡ length c.args.groups.now.starts - 1 = omega (arith, ap length c.as_slice-starts.ensures) in
    c.loop-variable.invariant.store ∙ ap (λ n. with_clauses (clauses_up_to c.args.groups.now.starts c.args.groups.now.values c.args.literals.now n) c.args.store.now) all
