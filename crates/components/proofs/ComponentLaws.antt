-- The parts of the graph of links are the components of the program.
use Rattle.std.proofs.Common.{◌≡◌, ℕ, ◌+◌, ◌<◌, ◌≤◌, Bool, true, false, ◌&&◌, ◌==◌, List, [], ◌∷◌, length, get_or, arith, refl, sym, subst, ◌∙◌, ap, ⊎_elim, inl, inr, eq-eqb, Result, Ok, Err, IfOk}
use Rattle.std.specs.List.{AllByRecursion}
use Rattle.std.proofs.lemmas.Bool.{and_from, and_parts, cases_lt, or_cases, true≢false}
use Rattle.std.proofs.lemmas.List.Folds.{list_any_at}
use Rattle.std.proofs.lemmas.Option.{slice_get_within}
use Rattle.asp_base.specs.Sets.{members}
use Rattle.asp_base.specs.Walks.{IsWalk, Reaches}
use Rattle.graph_parts.specs.Divided.{AreCycles, is_cyclic_at}
use Rattle.graph_parts.specs.Graph.{AreEdges, has_edge}
use Rattle.graph_parts.specs.Groups.{pair_at}
use Rattle.graph_parts.specs.Parts.{ArePartsAmong}
use Rattle.rising_numbers.proofs.RisingLaws.{members-at}
use Rattle.ground_program.specs.Facts.{Among, IsProgram, RuleFits}
use Rattle.ground_program.specs.Ground.{Ground}
use Rattle.ground_program.specs.Occurrences.{atoms_of_head}
use Rattle.ground_program.specs.declared.program.Rule.{Rule}
use Rattle.components.specs.private.Links.{LinkFits}
use Rattle.components.specs.Components.{AreComponents}
use Rattle.ground_program.specs.Dependencies.{depends, positives_of_body}
use Rattle.components.specs.private.Links.{links_of_rules}
use Rattle.components.specs.Components.{node_of}
use Rattle.components.proofs.AtomLaws.{heads-among, node-at, node-below, node-differ, positives-among}
use Rattle.components.proofs.LinkLaws.{Enters, Leaves, depends-found, link-cases, links-reach, reaches-links}

-- what three clauses say of an answer together
pub ok-three : {X E : Type 0} (r : Result X E) (A B C D : X → Type 0) → ((x : X) → A x → B x → C x → D x) → IfOk r A → IfOk r B → IfOk r C → IfOk r D
ok-three (Ok x) A B C D shown a b c = shown x a b c
ok-three (Err e) A B C D shown a b c = tt

-- an edge of the list leads where it says
itself : (edges : List (ℕ × ℕ)) (j : ℕ) → j < length edges → has_edge edges (pair_at edges j).0 (pair_at edges j).1 ≡ true
itself edges j inside =
    list_any_at (λ e. e.0 == (pair_at edges j).0 && e.1 == (pair_at edges j).1) edges j (0, 0) inside (and_from _ _ (eq-eqb (pair_at edges j).0 (pair_at edges j).0 refl) (eq-eqb (pair_at edges j).1 (pair_at edges j).1 refl))

-- each link is between an atom and a rule
pub links-fit : (atoms : List ℕ) (rules : List Rule) → AllByRecursion (RuleFits (Among atoms)) rules → (j : ℕ) → j < length (links_of_rules atoms (length atoms) rules) → LinkFits (length atoms) (length rules) (pair_at (links_of_rules atoms (length atoms) rules) j)
links-fit atoms rules fits j inside =
    ends (pair_at (links_of_rules atoms (length atoms) rules) j).0 (pair_at (links_of_rules atoms (length atoms) rules) j).1
    (itself (links_of_rules atoms (length atoms) rules) j inside)
  where
    ends : (u v : ℕ) → has_edge (links_of_rules atoms (length atoms) rules) u v ≡ true → LinkFits (length atoms) (length rules) (u, v)
    ends u v edge = ⊎_elim
        (λ (e : Enters atoms (length atoms) rules u v).
        let low = node-below atoms e.atom (heads-among atoms rules fits e.place e.rule e.atom e.at e.head) in
        let within = slice_get_within rules e.place e.rule e.at in
        let from = e.from in
        let to = e.to in
        record { into = λ small. (omega arith, omega arith); from = λ large. absurd (omega arith) })
        (λ (l : Leaves atoms (length atoms) rules u v).
        let low = node-below atoms l.atom (positives-among atoms rules fits l.place l.rule l.atom l.at l.positive) in
        let within = slice_get_within rules l.place l.rule l.at in
        let from = l.from in
        let to = l.to in
        record { into = λ small. absurd (omega arith); from = λ large. (omega arith, omega arith) })
        (link-cases atoms (length atoms) rules u v edge)

-- and so between two of the nodes
pub links-inside : (atoms : List ℕ) (rules : List Rule) → AllByRecursion (RuleFits (Among atoms)) rules → AreEdges (length atoms + length rules) (links_of_rules atoms (length atoms) rules)
links-inside atoms rules fits j inside =
    let fit = links-fit atoms rules fits j inside in
    ⊎_elim
    (λ (low : (pair_at (links_of_rules atoms (length atoms) rules) j).0 < length atoms). let into = fit.into low in (omega arith, omega arith))
    (λ (high : length atoms ≤ (pair_at (links_of_rules atoms (length atoms) rules) j).0). let from = fit.from high in (omega arith, omega arith))
    (cases_lt (pair_at (links_of_rules atoms (length atoms) rules) j).0 (length atoms))

-- Parts by a step that leads between the nodes of atoms just where these depend.
module _ (P : Ground) (program : IsProgram P) (step : ℕ → ℕ → Bool)
    (back : (a b : ℕ) → members P.atoms a ≡ true → members P.atoms b ≡ true → Reaches step (node_of P.atoms a) (node_of P.atoms b) → Reaches (depends P.rules) a b)
    (forth : (a b : ℕ) → Reaches (depends P.rules) a b → Reaches step (node_of P.atoms a) (node_of P.atoms b))
    (numbers : List ℕ) (count : ℕ) (cyclic : List Bool) (sized : length numbers ≡ length P.atoms) (parts : ArePartsAmong step numbers count) (cycles : AreCycles step numbers cyclic) where
  inside : (a : ℕ) → members P.atoms a ≡ true → node_of P.atoms a < length numbers
  inside a member = let low = node-below P.atoms a member in omega arith

  pub components-by : AreComponents P numbers count cyclic
  components-by = record {
    together = λ a b member_a member_b.
        let both = parts.together (node_of P.atoms a) (node_of P.atoms b) (inside a member_a) (inside b member_b) in (
          λ same. ⊎_elim
              (λ (equal : node_of P.atoms a ≡ node_of P.atoms b). inl (node-differ P.atoms program.atoms_rise a b member_a member_b equal))
              (λ (ways : Reaches step (node_of P.atoms a) (node_of P.atoms b) × Reaches step (node_of P.atoms b) (node_of P.atoms a)).
              inr (back a b member_a member_b ways.0, back b a member_b member_a ways.1))
              (both.0 same),
          λ together. both.1 (⊎_elim
              (λ (equal : a ≡ b). inl (ap (node_of P.atoms) equal))
              (λ (ways : Reaches (depends P.rules) a b × Reaches (depends P.rules) b a). inr (forth a b ways.0, forth b a ways.1))
              together),
        );
    lower = λ a b e.
        let by = depends-found P.rules a b e in
        parts.lower (node_of P.atoms a) (node_of P.atoms b)
        (inside a (heads-among P.atoms P.rules program.rules by.place by.rule a by.at by.head))
        (inside b (positives-among P.atoms P.rules program.rules by.place by.rule b by.at by.positive))
        (forth a b ([], e));
    least = λ a member. parts.least (node_of P.atoms a) (inside a member);
    most = λ a member. parts.most (node_of P.atoms a) (inside a member);
    each = λ i low high.
        let e = parts.each i low high in
        let within = e.1 in
        let is : node_of P.atoms (get_or P.atoms e.0 0) ≡ e.0 = node-at P.atoms program.atoms_rise e.0 (omega arith) in
        (get_or P.atoms e.0 0, members-at P.atoms e.0 (omega arith), ap (λ u. get_or numbers u 0) is ∙ e.2);
    cycles = λ a member.
        let each = cycles.each (node_of P.atoms a) (inside a member) in
        (λ yes. back a a member member (each.0 yes), λ reaches. each.1 (forth a a reaches));
  }

-- the links are such steps
pub components-are : (P : Ground) → IsProgram P → (numbers : List ℕ) (count : ℕ) (cyclic : List Bool) → length numbers ≡ length P.atoms → ArePartsAmong (has_edge (links_of_rules P.atoms (length P.atoms) P.rules)) numbers count → AreCycles (has_edge (links_of_rules P.atoms (length P.atoms) P.rules)) numbers cyclic → AreComponents P numbers count cyclic
components-are P program = components-by P program (has_edge (links_of_rules P.atoms (length P.atoms) P.rules))
    (λ a b member_a member_b reaches. links-reach P.atoms (length P.atoms) P.rules (λ c. members P.atoms c ≡ true) (node-below P.atoms) (node-differ P.atoms program.atoms_rise) (heads-among P.atoms P.rules program.rules) (positives-among P.atoms P.rules program.rules) a reaches.0 b member_a member_b reaches.1)
    (λ a b reaches. reaches-links P.atoms (length P.atoms) P.rules a reaches.0 b reaches.1)

-- ---- where no body has a positive literal

none-depends : (rules : List Rule) → AllByRecursion (λ rule. positives_of_body rule.body ≡ []) rules → (a b : ℕ) → depends rules a b ≡ true → ⊥
none-depends [] none a b e = true≢false (sym e)
none-depends (rule ∷ rules) none a b e = ⊎_elim
    (λ here. let both = and_parts (members (atoms_of_head rule.head) a) (members (positives_of_body rule.body) b) here in
    true≢false (sym (subst (λ (bs : List ℕ). members bs b ≡ true) none.0 both.1)))
    (none-depends rules none.1 a b)
    (or_cases (members (atoms_of_head rule.head) a && members (positives_of_body rule.body) b) (depends rules a b) e)

-- a walk has a first step
no-walk : (step : ℕ → ℕ → Bool) → ((a b : ℕ) → step a b ≡ true → ⊥) → (a : ℕ) (by : List ℕ) (b : ℕ) → IsWalk step a by b → ⊥
no-walk step none a [] b walk = none a b walk
no-walk step none a (c ∷ by) b walk = none a c walk.0

no-edge : (a b : ℕ) → has_edge [] a b ≡ true → ⊥
no-edge a b e = true≢false (sym e)

pub components-alone : (P : Ground) → IsProgram P → AllByRecursion (λ rule. positives_of_body rule.body ≡ []) P.rules → (numbers : List ℕ) (count : ℕ) (cyclic : List Bool) → length numbers ≡ length P.atoms → ArePartsAmong (has_edge []) numbers count → AreCycles (has_edge []) numbers cyclic → AreComponents P numbers count cyclic
components-alone P program none = components-by P program (has_edge [])
    (λ a b member_a member_b reaches. absurd (no-walk (has_edge []) no-edge (node_of P.atoms a) reaches.0 (node_of P.atoms b) reaches.1))
    (λ a b reaches. absurd (no-walk (depends P.rules) (none-depends P.rules none) a reaches.0 b reaches.1))

pub none-cyclic : (numbers : List ℕ) (count : ℕ) (cyclic : List Bool) → ArePartsAmong (has_edge []) numbers count → AreCycles (has_edge []) numbers cyclic → (i : ℕ) → 1 ≤ i → i ≤ count → is_cyclic_at cyclic i ≡ false
none-cyclic numbers count cyclic parts cycles i low high = go (is_cyclic_at cyclic i) refl
  where
    go : (b : Bool) → is_cyclic_at cyclic i ≡ b → b ≡ false
    go false is = refl
    go true is =
        let e = parts.each i low high in
        let reaches = (cycles.each e.0 e.1).0 (subst (λ n. is_cyclic_at cyclic n ≡ true) (sym e.2) is) in
        absurd (no-walk (has_edge []) no-edge e.0 reaches.0 e.0 reaches.1)
