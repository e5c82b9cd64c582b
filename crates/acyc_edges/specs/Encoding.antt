-- Acyclicity edges for the positive recursion of a normal program, in two encodings (M. Gebser,
-- T. Janhunen, J. Rintanen. Answer set programming as SAT modulo acyclicity. ECAI 2014). Each atom
-- of a cyclic component becomes free, and constraints hold it to its rules: it must hold where the
-- body of one of its rules does, and where it holds, one of its rules must hold whose edges lead to
-- the atoms of its body in the component. Where the edges have no cycle, the atoms are founded.
use Rattle.std.specs.Prelude.{ℕ, zero, suc, ◌+◌, ℤ, pos, Bool, false, not, cond, ◌==◌, int_lt, List, [], ◌∷◌, ◌++◌, map, length}
use Rattle.std.specs.List.{filter, flat_map}
use Rattle.std.specs.Ordering.{int_eq}
use Rattle.asp_base.specs.Literal.{Literal, Pos, Neg}
use Rattle.asp_base.specs.Sets.{members, once}
use Rattle.ground_program.specs.Ground.{Ground}
use Rattle.rising_numbers.specs.Rising.{rising}
use Rattle.ground_program.specs.declared.program.Head.{Head}
use Rattle.ground_program.specs.declared.program.Head.TheVariants.{Nothing, One, Choice}
use Rattle.ground_program.specs.declared.program.Body.TheVariants.{All}
use Rattle.ground_program.specs.declared.program.Rule.{Rule}
use Rattle.ground_program.specs.declared.program.Edge.{Edge}
use Rattle.ground_program.specs.Dependencies.{positives_of_body}
use Rattle.ground_program.specs.Normal.{literals_of}
use Rattle.acyc_edges.specs.declared.name.Name.{Name}
use Rattle.acyc_edges.specs.declared.name.Name.TheVariants.{Atom, Complement, Fires, Chosen, Left, Backed, NoLater, Backs}
use Rattle.acyc_edges.specs.Names.{is_new, index_by, atom_of_name}

-- the indices of a list's elements, from a first one on
abbrev pub counted : {A : Type 0} → ℕ → List A → List ℕ
counted n [] = []
counted n (x ∷ xs) = n ∷ counted (suc n) xs

abbrev pub rule_at : List Rule → ℕ → Rule
rule_at [] i = record { head = Nothing; body = All [] }
rule_at (rule ∷ rules) zero = rule
rule_at (rule ∷ rules) (suc i) = rule_at rules i

abbrev pub is_head : Head → ℕ → Bool
is_head Nothing a = false
is_head (One b) a = b == a
is_head (Choice as_) a = false

abbrev pub head_atom : Head → ℕ
head_atom Nothing = 0
head_atom (One a) = a
head_atom (Choice as_) = 0

abbrev pub has_head_in : (ℕ → Bool) → Head → Bool
has_head_in S Nothing = false
has_head_in S (One a) = S a
has_head_in S (Choice as_) = false

-- the numbers of nodes, rising, each once
abbrev pub into_rising_nodes : ℤ → List ℤ → List ℤ
into_rising_nodes u [] = u ∷ []
into_rising_nodes u (v ∷ vs) =
    cond (int_lt u v) (u ∷ v ∷ vs) (cond (int_eq u v) (v ∷ vs) (v ∷ into_rising_nodes u vs))

abbrev pub nodes_of : List Edge → List ℤ
nodes_of [] = []
nodes_of (edge ∷ edges) = into_rising_nodes edge.from (into_rising_nodes edge.to (nodes_of edges))

module _ (P : Ground) (part : ℕ → ℕ) (parts : List ℕ) where
  -- the atom is in a cyclic component
  abbrev pub is_cyclic : ℕ → Bool
  is_cyclic a = members parts (part a)

  -- the atoms of a component, ascending
  abbrev pub atoms_in : ℕ → List ℕ
  atoms_in c = filter (λ a. part a == c) P.atoms

  -- the indices of the rules of an atom
  abbrev pub rules_of : ℕ → List ℕ
  rules_of a = filter (λ i. is_head (rule_at P.rules i).head a) (counted 0 P.rules)

  abbrev pub head_at : ℕ → ℕ
  head_at i = head_atom (rule_at P.rules i).head

  -- the positive atoms of a rule's body in the component of its head, each once
  abbrev pub inner_at : ℕ → List ℕ
  inner_at i =
      once (filter (λ b. part b == part (head_at i)) (positives_of_body (rule_at P.rules i).body))

  -- the atoms to which edges may lead from an atom, each once
  abbrev pub ends_of : ℕ → List ℕ
  ends_of a = once (flat_map inner_at (rules_of a))

  -- ---- the names of an encoding

  abbrev pub both_names : ℕ → List Name
  both_names a = Atom a ∷ Complement a ∷ map Fires (rules_of a)

  abbrev pub edge_names : ℕ → List Name
  edge_names a = flat_map (λ b. Chosen a b ∷ Left a b ∷ []) (ends_of a)

  abbrev pub plain_names : ℕ → List Name
  plain_names c =
      flat_map both_names (atoms_in c)
      ++ (flat_map edge_names (atoms_in c) ++ map Backed (atoms_in c))

  abbrev pub unique_names : ℕ → List Name
  unique_names c =
      flat_map both_names (atoms_in c)
      ++ (flat_map (λ a. map (NoLater a) (atoms_in c)) (atoms_in c)
      ++ flat_map (λ a. map Backs (rules_of a)) (atoms_in c))

  -- ---- nodes

  -- the place of a node of the program among its nodes
  abbrev pub node_of : ℤ → ℤ
  node_of u = pos (index_by int_eq (nodes_of P.edges) u)

  -- the nodes of the atoms of cyclic components come behind
  abbrev pub node_of_atom : ℕ → ℤ
  node_of_atom a = pos (length (nodes_of P.edges) + index_by ◌==◌ (filter is_cyclic P.atoms) a)

  -- ---- the made program

  -- with the atom of each name
  module _ (num : Name → ℕ) where
    -- the bodies of the rules of a name
    abbrev pub bodies_of : Name → List (List Literal)
    bodies_of (Atom a) = (Neg (num (Complement a)) ∷ []) ∷ []
    bodies_of (Complement a) = (Neg a ∷ []) ∷ []
    bodies_of (Fires i) = literals_of (rule_at P.rules i).body ∷ []
    bodies_of (Chosen a b) = (Pos a ∷ Pos b ∷ Neg (num (Left a b)) ∷ []) ∷ []
    bodies_of (Left a b) = (Neg (num (Chosen a b)) ∷ []) ∷ []
    bodies_of (Backed a) =
        map (λ i. Pos (num (Fires i)) ∷ map (λ b. Pos (num (Chosen a b))) (inner_at i))
        (rules_of a)
    bodies_of (NoLater a c) =
        cond (a == c) (map (λ i. Pos (num (Backs i)) ∷ []) (rules_of a))
        (map (λ i. Pos (num (Fires i)) ∷ map (λ b. Neg (num (NoLater c b))) (inner_at i))
        (rules_of a))
    bodies_of (Backs i) =
        (Pos (num (Fires i)) ∷ map (λ b. Neg (num (NoLater (head_at i) b))) (inner_at i)) ∷ []

    -- the bodies of its constraints
    abbrev pub limits_of : Name → List (List Literal)
    limits_of (Atom a) = []
    limits_of (Complement a) = []
    limits_of (Fires i) = (Pos (num (Fires i)) ∷ Neg (head_at i) ∷ []) ∷ []
    limits_of (Chosen a b) = []
    limits_of (Left a b) = []
    limits_of (Backed a) = (Pos a ∷ Neg (num (Backed a)) ∷ []) ∷ []
    limits_of (NoLater a c) = cond (a == c) ((Pos a ∷ Neg (num (NoLater a c)) ∷ []) ∷ []) []
    limits_of (Backs i) = []

    -- an edge between two atoms under a name
    abbrev pub edge : ℕ → ℕ → Name → Edge
    edge a b n = record {
      from = node_of_atom a;
      to = node_of_atom b;
      condition = Pos (num n) ∷ [];
    }

    abbrev pub edges_of : Name → List Edge
    edges_of (Atom a) = []
    edges_of (Complement a) = []
    edges_of (Fires i) = []
    edges_of (Chosen a b) = edge a b (Chosen a b) ∷ []
    edges_of (Left a b) = []
    edges_of (Backed a) = []
    edges_of (NoLater a c) = []
    edges_of (Backs i) = map (λ b. edge (head_at i) b (Backs i)) (inner_at i)

    abbrev pub rules_of_name : Name → List Rule
    rules_of_name n =
        map (λ lits. record { head = One (num n); body = All lits }) (bodies_of n)
        ++ map (λ lits. record { head = Nothing; body = All lits }) (limits_of n)

  -- the rules that stay: those without head, and those with a head in no cyclic component
  abbrev pub kept_rules : List Rule
  kept_rules = filter (λ rule. not (has_head_in is_cyclic rule.head)) P.rules

  abbrev pub kept_edges : List Edge
  kept_edges =
      map (λ e. record { from = node_of e.from; to = node_of e.to; condition = e.condition })
      P.edges

  abbrev pub made : List Name → Ground
  made names =
      let num : Name → ℕ = atom_of_name P.atoms names in
      record {
        atoms = rising (P.atoms ++ map num (filter is_new names));
        rules = kept_rules ++ flat_map (rules_of_name num) names;
        required = P.required;
        edges = kept_edges ++ flat_map (edges_of num) names;
        levels = P.levels;
        shows = P.shows;
      }

  -- An edge is chosen, or not, from each atom of a component to each atom there that it depends on
  -- by one of its rules.
  abbrev pub plain : Ground
  plain = made (flat_map plain_names parts)

  -- Stages at which atoms are derived are compared, so that one choice alone is left: an edge leads
  -- from the head of a rule whose body holds to the atoms of the body in the component where all of
  -- them are derived before the head.
  abbrev pub unique : Ground
  unique = made (flat_map unique_names parts)
