-- A search as the code has it.
use Rattle.std.proofs.Common.{◌≡◌, ◌≢◌, ℕ, ◌+◌, ◌<◌, ◌≤◌, false, List, [], ◌∷◌, ◌++◌, length, set, Option, None, Some, arith, sym, ◌∙◌, ap, subst, ⊎_elim}
use Rattle.std.specs.Option.{is_none}
use Rattle.std.proofs.lemmas.Bool.{cases_eq, cases_lt}
use Rattle.std.proofs.lemmas.List.{get_or-set_same, get_or-set_other}
use Rattle.graph_parts.specs.private.Searching.{Holds, IsNext, Leading, Looked, Searches, Searching, StaysFound, place_at, weight, weight_of}
use Rattle.graph_parts.specs.declared.search.Search.{Search}
use Rattle.graph_parts.specs.declared.search.Look.{Look}
use Rattle.graph_parts.specs.declared.search.Look.TheVariants as looks
use Rattle.graph_parts.proofs.Rounds.{searching-open}

pub searches-held : (starts targets : List ℕ) (search : Search) (places : List (Option ℕ)) (numbers at nodes bounds work : List ℕ) (count : ℕ) → Holds search places numbers at nodes bounds work count → Searching starts targets places numbers at nodes bounds work count → Searches starts targets search
searches-held starts targets search places numbers at nodes bounds work count h s =
    rw (h.places_are, h.numbers_are, h.at_is, h.nodes_are, h.bounds_are, h.work_is, h.count_is) s

pub weight-held : (targets : List ℕ) (search : Search) (places : List (Option ℕ)) (numbers at nodes bounds work : List ℕ) (count n : ℕ) → Holds search places numbers at nodes bounds work count → weight targets places at bounds work < n → weight_of targets search < n
weight-held targets search places numbers at nodes bounds work count n h less =
    rw (h.places_are, h.at_is, h.bounds_are, h.work_is) less

-- a step that is next, and where it leads, is what is seen
pub leading-seen : (starts targets : List ℕ) (places : List (Option ℕ)) (numbers at nodes work : List ℕ) (bound node to : ℕ) (look : Look) → IsNext starts targets at nodes bound node to → Leading places numbers bound node to look → Looked starts targets places numbers at nodes work bound look
leading-seen starts targets places numbers at nodes work bound node to looks.Ended next leading = absurd leading
leading-seen starts targets places numbers at nodes work bound node to looks.Spent next leading = absurd leading
leading-seen starts targets places numbers at nodes work bound node to (looks.Past from) next leading =
    (to, subst (λ n. IsNext starts targets at nodes bound n to) (sym leading.0) next, leading.1)
leading-seen starts targets places numbers at nodes work bound node to (looks.New new) next leading =
    (node, subst (IsNext starts targets at nodes bound node) (sym leading.0) next, ap (place_at places) leading.0 ∙ leading.1)
leading-seen starts targets places numbers at nodes work bound node to looks.Back next leading =
    (node, to, leading.0, next, leading.1, leading.2, leading.3)

-- without bounds the chain is empty
pub chain-empty : (starts targets : List ℕ) (places : List (Option ℕ)) (numbers at nodes bounds work : List ℕ) (count : ℕ) → Searching starts targets places numbers at nodes bounds work count → bounds ≡ [] → length nodes ≡ 0
chain-empty starts targets places numbers at nodes bounds work count s empty =
    let none : length bounds ≡ 0 = ap length empty in
    ⊎_elim (λ (some : 0 < length nodes). let f = s.first some in absurd (omega arith)) (λ (end : length nodes ≤ 0). omega arith) (cases_lt 0 (length nodes))

pub searching-root : (starts targets : List ℕ) (places : List (Option ℕ)) (numbers at nodes bounds work : List ℕ) (count : ℕ) → Searching starts targets places numbers at nodes bounds work count → bounds ≡ [] → (node : ℕ) → node + 1 < length starts → place_at places node ≡ None → Searching starts targets (set places node (Some (length nodes))) numbers at (nodes ++ (node ∷ [])) (bounds ++ (length nodes ∷ [])) (work ++ (length nodes ∷ [])) count
searching-root starts targets places numbers at nodes bounds work count s empty node inside new =
    let none = chain-empty starts targets places numbers at nodes bounds work count s empty in
    searching-open starts targets places numbers at nodes bounds work count s node inside new (λ j low. absurd (omega arith))

-- ---- a node that gets a place is found, and what was found stays found

pub found-set : (places : List (Option ℕ)) (node n : ℕ) → node < length places → is_none (place_at (set places node (Some n)) node) ≡ false
found-set places node n within = ap is_none (get_or-set_same places node (Some n) None within)

pub stays-set : (places : List (Option ℕ)) (node n : ℕ) → node < length places → StaysFound places (set places node (Some n))
stays-set places node n within u found = ⊎_elim
    (λ (same : u ≡ node). ap (λ v. is_none (place_at (set places node (Some n)) v)) same ∙ found-set places node n within)
    (λ (apart : u ≢ node). ap is_none (get_or-set_other places node u (Some n) None apart) ∙ found)
    (cases_eq u node)
