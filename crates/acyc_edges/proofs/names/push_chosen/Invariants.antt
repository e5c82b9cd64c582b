-- What the loop of `push_chosen` has done so far.
use Rattle.std.proofs.Common.{◌≡◌, ◌++◌, [], ◌∷◌, take}
use Rattle.std.specs.List.{flat_map}
use Rattle.acyc_edges.specs.declared.name.Name.TheVariants.{Chosen, Left}
use Rattle.acyc_edges.proofs.names.push_chosen.Given as goal

abbrev pub invariant-loop-end : goal.invariant-loop-end
invariant-loop-end l = l.names.items ≡ l.initial.names.items ++ flat_map (λ b. Chosen l.atom b ∷ Left l.atom b ∷ []) (take l.end-index l.ends)
