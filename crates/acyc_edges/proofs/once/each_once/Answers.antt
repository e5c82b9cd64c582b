-- What is left to show of `each_once`.
use Rattle.std.proofs.Common.{◌≡◌, ◌++◌, [], ◌∷◌, ap, sym, ◌∙◌, slice_index_or, ◌==◌, false, true}
use Rattle.std.specs.List.{list_any}
use Rattle.acyc_edges.proofs.OnceLaws.{with_one, once-step, with_one-new, with_one-old, key-one, new-key, old-key}
use Rattle.acyc_edges.proofs.once.each_once.Goals as goal
use Rattle.acyc_edges.proofs.once.each_once.Goals.{then-branch+in_ok-push, else-branch}

pub loop-atom-preserved : goal.loop-atom-preserved
loop-atom-preserved c =
    let x = slice_index_or c.args.atoms.now c.loop-atom.atom-index 0 in
    let step = once-step c.args.atoms.now c.loop-atom.atom-index c.loop-atom-test.true in
    let keys = c.in_ok-insert.ensures.keys ∙ key-one c.loop-atom.seen.keys (slice_index_or c.args.atoms.now c.loop-atom.atom-index 0) in
    record {
      seen = keys ∙ (ap (λ xs. with_one xs (slice_index_or c.args.atoms.now c.loop-atom.atom-index 0)) c.loop-atom.invariant.seen ∙ sym step);
      list = elim c.if-branch.branch [
        | then-branch+in_ok-push w ↦
            let apart : list_any (λ y. slice_index_or c.args.atoms.now c.loop-atom.atom-index 0 == y) c.loop-atom.seen.keys ≡ false = new-key _ (sym c.in_ok-insert.ensures.added ∙ w.if-branch.true) in
            ap (λ l. l.items) w.list-is ∙ (w.in_ok-push.ensures.items
            ∙ (ap (λ xs. xs ++ (slice_index_or c.args.atoms.now c.loop-atom.atom-index 0 ∷ [])) (c.loop-atom.invariant.list ∙ sym c.loop-atom.invariant.seen)
            ∙ (sym (with_one-new c.loop-atom.seen.keys (slice_index_or c.args.atoms.now c.loop-atom.atom-index 0) apart)
            ∙ (ap (λ xs. with_one xs (slice_index_or c.args.atoms.now c.loop-atom.atom-index 0)) c.loop-atom.invariant.seen ∙ sym step))))
        | else-branch w ↦
            let there : list_any (λ y. slice_index_or c.args.atoms.now c.loop-atom.atom-index 0 == y) c.loop-atom.seen.keys ≡ true = old-key _ (sym c.in_ok-insert.ensures.added ∙ w.if-branch.false) in
            ap (λ l. l.items) w.list-is ∙ ((c.loop-atom.invariant.list ∙ sym c.loop-atom.invariant.seen)
            ∙ (sym (with_one-old c.loop-atom.seen.keys (slice_index_or c.args.atoms.now c.loop-atom.atom-index 0) there)
            ∙ (ap (λ xs. with_one xs (slice_index_or c.args.atoms.now c.loop-atom.atom-index 0)) c.loop-atom.invariant.seen ∙ sym step)))
      ];
    }
