-- The dependencies of a program are the walks between atoms in the graph of its links.
use Rattle.std.proofs.Common.{◌≡◌, ℕ, zero, suc, ◌+◌, ◌<◌, true, ◌&&◌, ◌==◌, ◌⊎◌, List, [], ◌∷◌, ◌++◌, Some, arith, refl, sym, ◌∙◌, ap, subst, ⊎_elim, inl, inr, eq-eqb, eqb-true}
use Rattle.std.specs.List.{slice_get}
use Rattle.std.proofs.lemmas.Bool.{and_from, and_parts, or_cases, or_left, or_right, true≢false}
use Rattle.std.proofs.lemmas.List.Folds.{list_any-append}
use Rattle.asp_base.specs.Sets.{members}
use Rattle.asp_base.specs.Walks.{IsWalk, Reaches}
use Rattle.graph_parts.specs.Graph.{has_edge}
use Rattle.graph_cycles.proofs.WalkLaws.{walk-join}
use Rattle.ground_program.specs.Occurrences.{atoms_of_head}
use Rattle.ground_program.specs.declared.program.Rule.{Rule}
use Rattle.ground_program.specs.Dependencies.{depends, positives_of_body}
use Rattle.components.specs.private.Links.{edges_from, edges_into, links_of_rule, links_of_rules}
use Rattle.components.specs.Components.{node_of}

-- an edge of two lists is one of either
edge-cases : (one other : List (ℕ × ℕ)) (u v : ℕ) → has_edge (one ++ other) u v ≡ true → (has_edge one u v ≡ true) ⊎ (has_edge other u v ≡ true)
edge-cases one other u v edge = or_cases _ _ (sym (list_any-append (λ e. e.0 == u && e.1 == v) one other) ∙ edge)

edge-left : (one other : List (ℕ × ℕ)) (u v : ℕ) → has_edge one u v ≡ true → has_edge (one ++ other) u v ≡ true
edge-left one other u v edge = list_any-append (λ e. e.0 == u && e.1 == v) one other ∙ or_left _ _ edge

edge-right : (one other : List (ℕ × ℕ)) (u v : ℕ) → has_edge other u v ≡ true → has_edge (one ++ other) u v ≡ true
edge-right one other u v edge = list_any-append (λ e. e.0 == u && e.1 == v) one other ∙ or_right _ _ edge

into-found : (atoms : List ℕ) (node : ℕ) (heads : List ℕ) (u v : ℕ) → has_edge (edges_into atoms node heads) u v ≡ true → (a : ℕ) × (members heads a ≡ true) × (u ≡ node_of atoms a) × (v ≡ node)
into-found atoms node [] u v edge = absurd (true≢false (sym edge))
into-found atoms node (a ∷ heads) u v edge = ⊎_elim
    (λ here. let both = and_parts (node_of atoms a == u) (node == v) here in
    (a, or_left _ _ (eq-eqb a a refl), sym (eqb-true _ _ both.0), sym (eqb-true _ _ both.1)))
    (λ there. let found = into-found atoms node heads u v there in (found.0, or_right _ _ found.1, found.2, found.3))
    (or_cases (node_of atoms a == u && node == v) (has_edge (edges_into atoms node heads) u v) edge)

from-found : (atoms : List ℕ) (node : ℕ) (positives : List ℕ) (u v : ℕ) → has_edge (edges_from atoms node positives) u v ≡ true → (b : ℕ) × (members positives b ≡ true) × (u ≡ node) × (v ≡ node_of atoms b)
from-found atoms node [] u v edge = absurd (true≢false (sym edge))
from-found atoms node (b ∷ positives) u v edge = ⊎_elim
    (λ here. let both = and_parts (node == u) (node_of atoms b == v) here in
    (b, or_left _ _ (eq-eqb b b refl), sym (eqb-true _ _ both.0), sym (eqb-true _ _ both.1)))
    (λ there. let found = from-found atoms node positives u v there in (found.0, or_right _ _ found.1, found.2, found.3))
    (or_cases (node == u && node_of atoms b == v) (has_edge (edges_from atoms node positives) u v) edge)

into-made : (atoms : List ℕ) (node : ℕ) (heads : List ℕ) (a : ℕ) → members heads a ≡ true → has_edge (edges_into atoms node heads) (node_of atoms a) node ≡ true
into-made atoms node [] a member = absurd (true≢false (sym member))
into-made atoms node (x ∷ heads) a member = ⊎_elim
    (λ (here : (x == a) ≡ true). or_left _ _ (and_from _ _ (eq-eqb _ _ (ap (node_of atoms) (eqb-true x a here))) (eq-eqb node node refl)))
    (λ there. or_right _ _ (into-made atoms node heads a there))
    (or_cases (x == a) (members heads a) member)

from-made : (atoms : List ℕ) (node : ℕ) (positives : List ℕ) (b : ℕ) → members positives b ≡ true → has_edge (edges_from atoms node positives) node (node_of atoms b) ≡ true
from-made atoms node [] b member = absurd (true≢false (sym member))
from-made atoms node (x ∷ positives) b member = ⊎_elim
    (λ (here : (x == b) ≡ true). or_left _ _ (and_from _ _ (eq-eqb node node refl) (eq-eqb _ _ (ap (node_of atoms) (eqb-true x b here)))))
    (λ there. or_right _ _ (from-made atoms node positives b there))
    (or_cases (x == b) (members positives b) member)

-- what a link is: from an atom into a rule with it in the head, or from a rule to a positive atom of its body
pub record Enters (atoms : List ℕ) (first : ℕ) (rules : List Rule) (u v : ℕ) : Type 0 where
  pub place : ℕ
  pub rule : Rule
  pub at : slice_get rules place ≡ Some rule
  pub atom : ℕ
  pub head : members (atoms_of_head rule.head) atom ≡ true
  pub from : u ≡ node_of atoms atom
  pub to : v ≡ first + place

pub record Leaves (atoms : List ℕ) (first : ℕ) (rules : List Rule) (u v : ℕ) : Type 0 where
  pub place : ℕ
  pub rule : Rule
  pub at : slice_get rules place ≡ Some rule
  pub atom : ℕ
  pub positive : members (positives_of_body rule.body) atom ≡ true
  pub from : u ≡ first + place
  pub to : v ≡ node_of atoms atom

pub link-cases : (atoms : List ℕ) (first : ℕ) (rules : List Rule) (u v : ℕ) → has_edge (links_of_rules atoms first rules) u v ≡ true → Enters atoms first rules u v ⊎ Leaves atoms first rules u v
link-cases atoms first [] u v edge = absurd (true≢false (sym edge))
link-cases atoms first (rule ∷ rules) u v edge = ⊎_elim
    (λ this. ⊎_elim
    (λ into. let found = into-found atoms first (atoms_of_head rule.head) u v into in
    inl (record { place = 0; rule = rule; at = refl; atom = found.0; head = found.1; from = found.2; to = found.3 ∙ (omega arith) }))
    (λ from. let found = from-found atoms first (positives_of_body rule.body) u v from in
    inr (record { place = 0; rule = rule; at = refl; atom = found.0; positive = found.1; from = found.2 ∙ (omega arith); to = found.3 }))
    (edge-cases (edges_into atoms first (atoms_of_head rule.head)) (edges_from atoms first (positives_of_body rule.body)) u v this))
    (λ later. ⊎_elim
    (λ (e : Enters atoms (first + 1) rules u v). let to = e.to in inl (record { place = suc e.place; rule = e.rule; at = e.at; atom = e.atom; head = e.head; from = e.from; to = omega arith }))
    (λ (l : Leaves atoms (first + 1) rules u v). let from = l.from in inr (record { place = suc l.place; rule = l.rule; at = l.at; atom = l.atom; positive = l.positive; from = omega arith; to = l.to }))
    (link-cases atoms (first + 1) rules u v later))
    (edge-cases (links_of_rule atoms first rule) (links_of_rules atoms (first + 1) rules) u v edge)

pub enter-made : (atoms : List ℕ) (first : ℕ) (rules : List Rule) (k : ℕ) (rule : Rule) (a : ℕ) → slice_get rules k ≡ Some rule → members (atoms_of_head rule.head) a ≡ true → has_edge (links_of_rules atoms first rules) (node_of atoms a) (first + k) ≡ true
enter-made atoms first [] k rule a at member = absurd (cc)
enter-made atoms first (x ∷ rules) zero rule a at member =
    let same : x ≡ rule = cc in
    let node : first + 0 ≡ first = omega arith in
    rw node (edge-left (links_of_rule atoms first x) (links_of_rules atoms (first + 1) rules) (node_of atoms a) first
    (edge-left (edges_into atoms first (atoms_of_head x.head)) (edges_from atoms first (positives_of_body x.body)) (node_of atoms a) first
    (into-made atoms first (atoms_of_head x.head) a (subst (λ (r : Rule). members (atoms_of_head r.head) a ≡ true) (sym same) member))))
enter-made atoms first (x ∷ rules) (suc k) rule a at member =
    let node : first + suc k ≡ (first + 1) + k = omega arith in
    rw node (edge-right (links_of_rule atoms first x) (links_of_rules atoms (first + 1) rules) (node_of atoms a) ((first + 1) + k) (enter-made atoms (first + 1) rules k rule a at member))

pub leave-made : (atoms : List ℕ) (first : ℕ) (rules : List Rule) (k : ℕ) (rule : Rule) (b : ℕ) → slice_get rules k ≡ Some rule → members (positives_of_body rule.body) b ≡ true → has_edge (links_of_rules atoms first rules) (first + k) (node_of atoms b) ≡ true
leave-made atoms first [] k rule b at member = absurd (cc)
leave-made atoms first (x ∷ rules) zero rule b at member =
    let same : x ≡ rule = cc in
    let node : first + 0 ≡ first = omega arith in
    rw node (edge-left (links_of_rule atoms first x) (links_of_rules atoms (first + 1) rules) first (node_of atoms b)
    (edge-right (edges_into atoms first (atoms_of_head x.head)) (edges_from atoms first (positives_of_body x.body)) first (node_of atoms b)
    (from-made atoms first (positives_of_body x.body) b (subst (λ (r : Rule). members (positives_of_body r.body) b ≡ true) (sym same) member))))
leave-made atoms first (x ∷ rules) (suc k) rule b at member =
    let node : first + suc k ≡ (first + 1) + k = omega arith in
    rw node (edge-right (links_of_rule atoms first x) (links_of_rules atoms (first + 1) rules) ((first + 1) + k) (node_of atoms b) (leave-made atoms (first + 1) rules k rule b at member))

-- a dependency, by a rule
pub record DependsBy (rules : List Rule) (a b : ℕ) : Type 0 where
  pub place : ℕ
  pub rule : Rule
  pub at : slice_get rules place ≡ Some rule
  pub head : members (atoms_of_head rule.head) a ≡ true
  pub positive : members (positives_of_body rule.body) b ≡ true

pub depends-found : (rules : List Rule) (a b : ℕ) → depends rules a b ≡ true → DependsBy rules a b
depends-found [] a b e = absurd (true≢false (sym e))
depends-found (rule ∷ rules) a b e = ⊎_elim
    (λ here. let both = and_parts (members (atoms_of_head rule.head) a) (members (positives_of_body rule.body) b) here in record { place = 0; rule = rule; at = refl; head = both.0; positive = both.1 })
    (λ there. let found = depends-found rules a b there in record { place = suc found.place; rule = found.rule; at = found.at; head = found.head; positive = found.positive })
    (or_cases (members (atoms_of_head rule.head) a && members (positives_of_body rule.body) b) (depends rules a b) e)

pub depends-made : (rules : List Rule) (k : ℕ) (rule : Rule) (a b : ℕ) → slice_get rules k ≡ Some rule → members (atoms_of_head rule.head) a ≡ true → members (positives_of_body rule.body) b ≡ true → depends rules a b ≡ true
depends-made [] k rule a b at head positive = absurd (cc)
depends-made (x ∷ rules) zero rule a b at head positive =
    let same : rule ≡ x = cc in
    or_left _ _ (subst (λ (r : Rule). (members (atoms_of_head r.head) a && members (positives_of_body r.body) b) ≡ true) same (and_from _ _ head positive))
depends-made (x ∷ rules) (suc k) rule a b at head positive = or_right _ _ (depends-made rules k rule a b at head positive)

-- each dependency is a walk of two links
module _ (atoms : List ℕ) (first : ℕ) (rules : List Rule) where
  pub depends-link : (a b : ℕ) → depends rules a b ≡ true → Reaches (has_edge (links_of_rules atoms first rules)) (node_of atoms a) (node_of atoms b)
  depends-link a b e =
      let by = depends-found rules a b e in
      ((first + by.place) ∷ [], (enter-made atoms first rules by.place by.rule a by.at by.head, leave-made atoms first rules by.place by.rule b by.at by.positive))

  pub reaches-links : (a : ℕ) (by : List ℕ) (b : ℕ) → IsWalk (depends rules) a by b → Reaches (has_edge (links_of_rules atoms first rules)) (node_of atoms a) (node_of atoms b)
  reaches-links a [] b walk = depends-link a b walk
  reaches-links a (c ∷ by) b walk =
      let one = depends-link a c walk.0 in
      let rest = reaches-links c by b walk.1 in
      (one.0 ++ (node_of atoms c ∷ rest.0), walk-join (has_edge (links_of_rules atoms first rules)) (node_of atoms a) one.0 (node_of atoms c) rest.0 (node_of atoms b) one.1 rest.1)

  -- where the atoms of the rules have nodes of their own, below those of the rules, the walks between atoms are the dependencies
  module _ (Atom : ℕ → Type 0) (below : (a : ℕ) → Atom a → node_of atoms a < first) (differ : (a b : ℕ) → Atom a → Atom b → node_of atoms a ≡ node_of atoms b → a ≡ b) (heads : (k : ℕ) (rule : Rule) (a : ℕ) → slice_get rules k ≡ Some rule → members (atoms_of_head rule.head) a ≡ true → Atom a) (positives : (k : ℕ) (rule : Rule) (b : ℕ) → slice_get rules k ≡ Some rule → members (positives_of_body rule.body) b ≡ true → Atom b) where
    -- a link from an atom enters a rule
    enters : (a v : ℕ) → Atom a → has_edge (links_of_rules atoms first rules) (node_of atoms a) v ≡ true → Enters atoms first rules (node_of atoms a) v
    enters a v atom edge = ⊎_elim (λ e. e)
        (λ (l : Leaves atoms first rules (node_of atoms a) v). let low = below a atom in let from = l.from in absurd (omega arith))
        (link-cases atoms first rules (node_of atoms a) v edge)

    -- a link from a rule leaves it
    leaves : (u v k : ℕ) → u ≡ first + k → has_edge (links_of_rules atoms first rules) u v ≡ true → Leaves atoms first rules u v
    leaves u v k is edge = ⊎_elim
        (λ (e : Enters atoms first rules u v). let low = below e.atom (heads e.place e.rule e.atom e.at e.head) in let from = e.from in absurd (omega arith))
        (λ l. l)
        (link-cases atoms first rules u v edge)

    -- two links are a dependency
    two-links : (a r x : ℕ) → Atom a → has_edge (links_of_rules atoms first rules) (node_of atoms a) r ≡ true → has_edge (links_of_rules atoms first rules) r x ≡ true → (b : ℕ) × Atom b × (x ≡ node_of atoms b) × (depends rules a b ≡ true)
    two-links a r x atom one other =
        let e = enters a r atom one in
        let l = leaves r x e.place e.to other in
        let same_atom : e.atom ≡ a = differ e.atom a (heads e.place e.rule e.atom e.at e.head) atom (sym e.from) in
        let to = e.to in
        let from = l.from in
        let same_place : l.place ≡ e.place = omega arith in
        let at : slice_get rules e.place ≡ Some l.rule = subst (λ k. slice_get rules k ≡ Some l.rule) same_place l.at in
        let was = e.at in
        let same_rule : l.rule ≡ e.rule = cc in (
          l.atom,
          positives l.place l.rule l.atom l.at l.positive,
          l.to,
          depends-made rules e.place e.rule a l.atom e.at
              (subst (λ c. members (atoms_of_head e.rule.head) c ≡ true) same_atom e.head)
              (subst (λ (r : Rule). members (positives_of_body r.body) l.atom ≡ true) same_rule l.positive),
        )

    pub links-reach : (a : ℕ) (by : List ℕ) (b : ℕ) → Atom a → Atom b → IsWalk (has_edge (links_of_rules atoms first rules)) (node_of atoms a) by (node_of atoms b) → Reaches (depends rules) a b
    links-reach a [] b atom_a atom_b walk =
        let e = enters a (node_of atoms b) atom_a walk in
        let low = below b atom_b in
        let to = e.to in
        absurd (omega arith)
    links-reach a (r ∷ []) b atom_a atom_b walk =
        let two = two-links a r (node_of atoms b) atom_a walk.0 walk.1 in
        ([], subst (λ c. depends rules a c ≡ true) (sym (differ b two.0 atom_b two.1 two.2)) two.3)
    links-reach a (r ∷ x ∷ by) b atom_a atom_b walk =
        let two = two-links a r x atom_a walk.0 walk.1.0 in
        let rest = links-reach two.0 by b two.1 atom_b (subst (λ u. IsWalk (has_edge (links_of_rules atoms first rules)) u by (node_of atoms b)) two.2 walk.1.1) in
        (two.0 ∷ rest.0, (two.3, rest.1))
