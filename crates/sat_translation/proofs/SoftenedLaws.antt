-- A formula with the soft clauses of a map's levels stands for what it stands for without them, and its soft clauses have the
-- costs of the program's levels.
use Rattle.std.proofs.Common.{◌≡◌, refl, sym, ◌∙◌, ap, ap₂, subst, ℕ, ◌+◌, ◌<◌, ◌≤◌, ◌^◌, ◌↔◌, List, [], ◌∷◌, ◌++◌, map, IfOk, Result, Ok, Err}
use Rattle.std.specs.Prelude.{ℤ, pos}
use Rattle.std.specs.List.{AllByRecursion}
use Rattle.asp_base.specs.Literal.{Literal, atom_of}
use Rattle.asp_base.specs.Sets.{members, Within}
use Rattle.asp_base.proofs.Each.{each-weaker}
use Rattle.clause_store.specs.Clauses.{Clauses}
use Rattle.clause_store.specs.Facts.{IsOver}
use Rattle.clause_store.specs.Models.{soft_cost}
use Rattle.clause_store.specs.Soft.{with_soft, weights_of}
use Rattle.clause_store.specs.Stored.{Stored, formula_of_store}
use Rattle.clause_store.specs.declared.formula.SoftClause.{SoftClause}
use Rattle.ground_program.specs.Facts.{IsProgram, IsShort, FitsWeight, LevelFits}
use Rattle.ground_program.specs.Faithful.{Faithful}
use Rattle.ground_program.specs.Ground.{Ground}
use Rattle.ground_program.specs.Occurrences.{over_variables}
use Rattle.ground_program.specs.Room.{room}
use Rattle.ground_program.specs.Size.{size}
use Rattle.ground_program.specs.declared.program.Level.{Level}
use Rattle.normalize.specs.Kept.{SameRest}
use Rattle.soft_costs.specs.Outcome.{AreOver, IsScale, Softened}
use Rattle.soft_costs.specs.Softening.{soft_of, too_large_at}
use Rattle.soft_costs.specs.declared.scale.Scale.{Scale}
use Rattle.soft_costs.specs.declared.scale.ScaleRefusal.{ScaleRefusal}
use Rattle.soft_costs.specs.declared.scale.ScaleRefusal.TheVariants as scales
use Rattle.soft_costs.proofs.PassingLaws.{too_large-renamed}
use Rattle.soft_costs.proofs.SoftLaws.{soft_cost-is, soft_cost-order, weights_of-levels}
use Rattle.symbol_map.specs.FaithfulMap.{FaithfulMap, JoinsCosts}
use Rattle.symbol_map.specs.IsMap.{IsMap, IsVariable}
use Rattle.symbol_map.specs.Restrict.{costs}
use Rattle.symbol_map.specs.Scale.{IsCheaper, level_weights}
use Rattle.symbol_map.specs.Symbols.{Symbols}
use Rattle.symbol_map.specs.declared.map.Form.{Form}
use Rattle.symbol_map.specs.declared.map.Form.TheVariants.{Wcnf}
use Rattle.symbol_map.proofs.ScaleLaws.{joined_cost-weights}
use Rattle.symbol_map.proofs.SoftMaps.{FaithfulMap-soft}
use Rattle.sat_translation.specs.InputMap.{input_map, level_over, items_over}
use Rattle.sat_translation.specs.Ranked.{IsRanked, hard_part}
use Rattle.sat_translation.specs.Translated.{FitsRoom, IsCnf, IsWcnf}
use Rattle.sat_translation.specs.declared.softened.SoftRefusal.{SoftRefusal}
use Rattle.sat_translation.specs.declared.translation.Translation.{Translation}
use Rattle.sat_translation.specs.private.Scaled.{PassesAs, soft_refusal}
use Rattle.sat_translation.specs.private.Sizes.{FitsSize}
use Rattle.sat_translation.proofs.MadeLaws.{made-faithful, made-fits}

-- ---- maps

-- the levels of a map are over its variables
pub map-levels_over : (m : Symbols) → IsMap m → AreOver m.vars m.levels
map-levels_over m i =
    each-weaker (λ (level : Level). IsShort level.items × LevelFits (IsVariable m.vars) level) (λ (level : Level). AllByRecursion (λ (item : Literal × ℤ). IsOver m.vars item.0) level.items)
    (λ level k.
    each-weaker (λ (item : Literal × ℤ). IsVariable m.vars (atom_of item.0) × FitsWeight item.1) (λ (item : Literal × ℤ). IsOver m.vars item.0) (λ item h. h.0) level.items k.1)
    m.levels i.levels

pub form-is_map : (m : Symbols) (form : Form) → IsMap m → IsMap (record m { form = form })
form-is_map m form i = record {
  vars = i.vars;
  atoms_rise = i.atoms_rise;
  atoms = i.atoms;
  shows = i.shows;
  levels = i.levels;
  priorities = i.priorities;
  priorities_fit = i.priorities_fit;
}

-- ---- what soft clauses leave of a formula

module _ (old new : Stored) (levels : List Level) (soft : new ≡ with_soft (soft_of levels) old) (cnf : IsCnf (formula_of_store old 1)) where
  pub softened-hard : (top : ℕ) → hard_part (formula_of_store new top) ≡ formula_of_store old 1
  softened-hard top =
      ap (λ s. hard_part (formula_of_store s top)) soft
      ∙ ap (λ (clauses : List SoftClause). record (formula_of_store old 1) { soft = clauses }) (sym cnf.soft)

  pub softened-soft : new.soft ≡ soft_of levels
  softened-soft = ap (λ s. s.soft) soft ∙ ap (λ (clauses : List SoftClause). clauses ++ soft_of levels) cnf.soft

  pub softened-wcnf : (scale : Scale) → IsScale levels scale → IsWcnf (formula_of_store new scale.top)
  softened-wcnf scale s = record {
    edges = ap (λ (t : Stored). t.edges) soft ∙ cnf.edges;
    top = ap (λ (clauses : List SoftClause). weights_of clauses + 1) softened-soft ∙ (weights_of-levels levels ∙ sym s.top);
    below = subst (λ n. n < 2 ^ 63) (sym s.top) s.below;
  }

  pub softened-size : (N : Ground) (top : ℕ) → FitsSize N (formula_of_store old 1) → FitsSize N (formula_of_store new top)
  softened-size N top f =
      let k : FitsSize N (hard_part (formula_of_store new top)) = subst (FitsSize N) (sym (softened-hard top)) f in
      record { atoms = k.atoms; numbers = k.numbers; vars = k.vars; hard = k.hard; each = k.each }

-- ---- weights

weights-over_items : (atoms : List ℕ) (items : List (Literal × ℤ)) → map (λ item. item.1) (items_over atoms items) ≡ map (λ item. item.1) items
weights-over_items atoms [] = refl
weights-over_items atoms (item ∷ items) = ap (λ ws. item.1 ∷ ws) (weights-over_items atoms items)

weights-over : (atoms : List ℕ) (levels : List Level) → level_weights (map (level_over atoms) levels) ≡ level_weights levels
weights-over atoms [] = refl
weights-over atoms (level ∷ levels) = ap₂ ◌∷◌ (weights-over_items atoms level.items) (weights-over atoms levels)

-- levels over variables pass where the program's own do
pub map-passes : (N : Ground) (levels : List Level) → levels ≡ map (level_over N.atoms) N.levels → too_large_at N.levels ≡ too_large_at levels
map-passes N levels e = sym (too_large-renamed (over_variables N.atoms) N.levels) ∙ sym (ap too_large_at e)

pub scaled-passes : (N : Ground) (levels : List Level) (old new : Stored) (refusal : ScaleRefusal) → levels ≡ map (level_over N.atoms) N.levels → Softened levels old new (Err refusal)
    → PassesAs N.levels (soft_refusal refusal)
scaled-passes N levels old new (scales.SumTooLarge priority) e s = map-passes N levels e ∙ s.0
scaled-passes N levels old new scales.Memory e s = tt

-- ---- costs

-- soft clauses of levels that have the weights of the program's join their costs
pub JoinsCosts-soft : (P : Ground) (F : Clauses) (m : Symbols) → level_weights m.levels ≡ level_weights P.levels → F.soft ≡ soft_of m.levels → JoinsCosts P F m
JoinsCosts-soft P F m same e = record {
  sum = λ A s. ap (λ (clauses : List SoftClause). pos (soft_cost clauses A)) e ∙ (soft_cost-is m.levels A ∙ joined_cost-weights m.levels P.levels (costs m A) same);
  order = λ A B s t. subst (λ (clauses : List SoftClause). (soft_cost clauses A < soft_cost clauses B) ↔ IsCheaper (costs m A) (costs m B)) (sym e) (soft_cost-order m.levels A B);
}

pub softened-faithful : (P N : Ground) (F : Clauses) → IsProgram P → IsProgram N → P.edges ≡ [] → Faithful P N → SameRest P N
    → Within (members P.atoms) (members N.atoms) → IsRanked N (hard_part F) → F.soft ≡ soft_of (map (level_over N.atoms) N.levels)
    → FaithfulMap P F (record (input_map N P.atoms F.vars) { form = Wcnf })
softened-faithful P N F p n none f r w k e =
    FaithfulMap-soft P (hard_part F) (input_map N P.atoms F.vars) F.soft F.top
    (made-faithful P N (hard_part F) p n none f r w k)
    (JoinsCosts-soft P F (record (input_map N P.atoms F.vars) { form = Wcnf }) (weights-over N.atoms N.levels ∙ ap level_weights r.levels) e)

-- ---- what is answered

module _ (P N : Ground) where
  pub answered-faithful : (answer : Result Translation SoftRefusal) (given : List ℕ) → given ≡ P.atoms → IsProgram P → IsProgram N → P.edges ≡ [] → Faithful P N → SameRest P N
      → Within (members P.atoms) (members N.atoms) → IfOk answer (λ t. IsRanked N (hard_part t.formula))
      → IfOk answer (λ t. t.map ≡ record (input_map N given t.formula.vars) { form = Wcnf }) → IfOk answer (λ t. t.formula.soft ≡ soft_of t.map.levels)
      → IfOk answer (λ t. FaithfulMap P t.formula t.map)
  answered-faithful (Ok t) given same p n none f r w k m s =
      let map_is : t.map ≡ record (input_map N P.atoms t.formula.vars) { form = Wcnf } =
      m ∙ ap (λ (atoms : List ℕ). record (input_map N atoms t.formula.vars) { form = Wcnf }) same in
      subst (FaithfulMap P t.formula) (sym map_is) (softened-faithful P N t.formula p n none f r w k (s ∙ ap (λ (x : Symbols). soft_of x.levels) map_is))
  answered-faithful (Err refusal) given same p n none f r w k m s = tt

  pub answered-fits : (answer : Result Translation SoftRefusal) → size N ≤ room P → IfOk answer (λ t. FitsSize N t.formula) → IfOk answer (λ t. FitsRoom P t.formula)
  answered-fits (Ok t) s f = made-fits P N t.formula s f
  answered-fits (Err refusal) s f = tt
