use Rattle.std.proofs.Common.{◌≡◌, sym, ◌∙◌, ap, ap₂, subst, List, ℕ, Bool, false, length, map, replicate}
use Rattle.asp_base.specs.Sets.{none}
use Rattle.stable_check.specs.private.Lack.{flag, lack, zeros}
use Rattle.stable_check.specs.private.Growth.{Counts}
use Rattle.stable_check.specs.private.UnderWay.{IsUnderWay}
use Rattle.stable_check.proofs.Derivation.{under-way_first}
use Rattle.stable_check.proofs.least_model.grown.Goals as goal

pub run-requires-clause-begun : goal.run-requires-clause-begun
run-requires-clause-begun c =
    let lacks : List ℕ = map (lack none (flag c.args.atoms.now c.args.set.now)) c.args.rules.now in
    let derived : c.in_ok-derived.derived.items ≡ replicate (length c.args.atoms.now) false =
    c.in_ok-derived.ensures.items_if_clones_equal (λ y e. e) ∙ ap (λ (xs : List ℕ). replicate (length xs) false) c.as_slice-2.ensures.is in
    let ready : c.in_ok-ready.ready.items ≡ zeros 0 lacks = c.in_ok-ready.ensures ∙ ap (zeros 0) (c.as_slice.ensures.value ∙ c.in_ok-lacking.ensures) in
    let counts : c.new.result ≡ record { lacks = lacks; ready = zeros 0 lacks } =
    c.new.ensures ∙ ap₂ (λ (ns : List ℕ) (rs : List ℕ). record { lacks = ns; ready = rs }) c.in_ok-lacking.ensures ready in
    let start : c.new-growth.result ≡ record { derived = replicate (length c.args.atoms.now) false; counts = record { lacks = lacks; ready = zeros 0 lacks } } =
    c.new-growth.ensures ∙ ap₂ (λ (flags : List Bool) (counts : Counts). record { derived = flags; counts = counts }) derived counts in
    subst (IsUnderWay c.args.atoms.now c.args.rules.now (flag c.args.atoms.now c.args.set.now) (λ r. ⊥)) (sym start)
    (under-way_first c.args.atoms.now c.args.rules.now c.args.set.now c.as_slice-2.ensures.rise c.requires.fit)
