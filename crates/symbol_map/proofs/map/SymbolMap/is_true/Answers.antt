use Rattle.std.proofs.Common.{◌≡◌, ◌∙◌, sym, ap, rules}
use Rattle.std.proofs.lemmas.List.Sorted.{answers_always}
use Rattle.clause_store.specs.Assigned.{true_in}
use Rattle.symbol_map.specs.declared.map.Place.{Place}
use Rattle.symbol_map.specs.IsMap.{PlacesRise}
use Rattle.symbol_map.specs.Restrict.{atoms_true}
use Rattle.symbol_map.proofs.Searched.{atoms_true_at, atoms_true_nowhere, equal_from_cmp, nowhere_from_search}
use Rattle.symbol_map.proofs.map.SymbolMap.is_true.Goals as goal

pub returns-in-Ok : goal.returns-in-Ok
returns-in-Ok c =
    let places = c.as_slice-places.result.now in
    let place = c.index-places-i.result in
    let values = true_in c.args.values.now in
    let same : places ≡ c.args.self.now.atoms = c.as_slice-places.ensures ∙ ap (λ m. m.atoms) c.self.view_is in
    let rise : PlacesRise 0 places = rw c.as_slice-places.ensures c.self.invariant.atoms_rise in
    let found = c.in-Ok.ensures.position (λ (place : Place). place.atom) (answers_always _ _ _ (λ f a r g k. search rules)) in
    c.literal_holds.ensures ∙ sym (atoms_true_at places values 0 c.args.atom c.in-Ok.i place rise c.in-Ok.ensures.bound (equal_from_cmp _ _ (found place)))
    ∙ ap (λ ps. atoms_true ps values c.args.atom) same

pub returns-in-Err : goal.returns-in-Err
returns-in-Err c =
    let places = c.as_slice-places.result.now in
    let values = true_in c.args.values.now in
    let same : places ≡ c.args.self.now.atoms = c.as_slice-places.ensures ∙ ap (λ m. m.atoms) c.self.view_is in
    let rise : PlacesRise 0 places = rw c.as_slice-places.ensures c.self.invariant.atoms_rise in
    let missing = c.in-Err.ensures.position (λ (place : Place). place.atom) (answers_always _ _ _ (λ f a r g k. search rules)) in
    sym (atoms_true_nowhere places values c.args.atom (nowhere_from_search places 0 c.args.atom c.in-Err.field-0 rise missing))
    ∙ ap (λ ps. atoms_true ps values c.args.atom) same
