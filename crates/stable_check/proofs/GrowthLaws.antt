-- What stays the same while the least model grows.
use Rattle.std.proofs.Common.{◌≡◌, refl, sym, ◌∙◌, ap, ℕ, ◌+◌, ◌-◌, ◌<◌, Bool, true, false, List, [], ◌∷◌, length, get_or, drop, add-one}
use Rattle.std.proofs.lemmas.Bool.{cond_both}
use Rattle.std.proofs.lemmas.List.{length-set, drop_more}
use Rattle.asp_base.specs.Literal.{Literal, Pos, Neg}
use Rattle.rising_numbers.specs.Rising.{place}
use Rattle.ground_program.specs.declared.program.Head.{Head}
use Rattle.ground_program.specs.declared.program.Head.TheVariants.{Nothing, One, Choice}
use Rattle.ground_program.specs.declared.program.Rule.{Rule}
use Rattle.stable_check.specs.private.Lack.{flag, weighed}
use Rattle.stable_check.specs.private.Links.{Entry, with_literal, with_items, with_rules}
use Rattle.stable_check.specs.private.Growth.{Counts, take_off, take_off_all, Growing, derive, derive_if_chosen, derive_chosen, derive_head}
use Rattle.stable_check.proofs.CountLaws.{left, left-take_off_all}

pub length-with_literal : (atoms : List ℕ) (rule weight : ℕ) (l : Literal) (rows : List (List Entry)) → length (with_literal atoms rule weight l rows) ≡ length rows
length-with_literal atoms rule weight (Pos a) rows = length-set rows (place atoms a - 1) _
length-with_literal atoms rule weight (Neg a) rows = refl

pub length-with_items : (atoms : List ℕ) (rule : ℕ) (items : List (Literal × ℕ)) (rows : List (List Entry)) → length (with_items atoms rule items rows) ≡ length rows
length-with_items atoms rule [] rows = refl
length-with_items atoms rule (item ∷ items) rows = length-with_items atoms rule items (with_literal atoms rule item.1 item.0 rows) ∙ length-with_literal atoms rule item.1 item.0 rows

pub lacks-take_off_all : (entries : List Entry) (c : Counts) → length (take_off_all entries c).lacks ≡ length c.lacks
lacks-take_off_all [] c = refl
lacks-take_off_all (entry ∷ entries) c = lacks-take_off_all entries (take_off entry c) ∙ length-set c.lacks entry.0 (get_or c.lacks entry.0 0 - entry.1)

pub derived-derive : (rows : List (List Entry)) (i : ℕ) (g : Growing) → length (derive rows i g).derived ≡ length g.derived
derived-derive rows i g = cond_both (get_or g.derived i false) g _ (λ (h : Growing). length h.derived ≡ length g.derived) (λ e. refl) (λ e. length-set g.derived i true)

pub lacks-derive : (rows : List (List Entry)) (i : ℕ) (g : Growing) → length (derive rows i g).counts.lacks ≡ length g.counts.lacks
lacks-derive rows i g = cond_both (get_or g.derived i false) g _ (λ (h : Growing). length h.counts.lacks ≡ length g.counts.lacks) (λ e. refl) (λ e. lacks-take_off_all (get_or rows i []) g.counts)

-- the rules from an index on
pub with_rules-next : (atoms : List ℕ) (rules : List Rule) (i : ℕ) (rule : Rule) (rows : List (List Entry)) → i < length rules → rule ≡ get_or rules i rule →
    with_rules atoms (i + 1) (drop (i + 1) rules) (with_items atoms i (weighed rule.body) rows) ≡ with_rules atoms i (drop i rules) rows
with_rules-next atoms rules i rule rows h is =
    ap (λ n. with_rules atoms n (drop (i + 1) rules) (with_items atoms i (weighed rule.body) rows)) (add-one i)
    ∙ ap (λ rs. with_rules atoms i rs rows) (ap (λ r. r ∷ drop (i + 1) rules) is ∙ sym (drop_more rules i rule h))

pub derived-derive_if_chosen : (atoms : List ℕ) (chosen : List Bool) (rows : List (List Entry)) (a : ℕ) (g : Growing) → length (derive_if_chosen atoms chosen rows a g).derived ≡ length g.derived
derived-derive_if_chosen atoms chosen rows a g = cond_both (flag atoms chosen a) _ g (λ (h : Growing). length h.derived ≡ length g.derived) (λ e. derived-derive rows (place atoms a - 1) g) (λ e. refl)

pub lacks-derive_if_chosen : (atoms : List ℕ) (chosen : List Bool) (rows : List (List Entry)) (a : ℕ) (g : Growing) → length (derive_if_chosen atoms chosen rows a g).counts.lacks ≡ length g.counts.lacks
lacks-derive_if_chosen atoms chosen rows a g = cond_both (flag atoms chosen a) _ g (λ (h : Growing). length h.counts.lacks ≡ length g.counts.lacks) (λ e. lacks-derive rows (place atoms a - 1) g) (λ e. refl)

pub derive_chosen-next : (atoms : List ℕ) (chosen : List Bool) (rows : List (List Entry)) (heads : List ℕ) (i d : ℕ) (g : Growing) → i < length heads →
    derive_chosen atoms chosen rows (drop (i + 1) heads) (derive_if_chosen atoms chosen rows (get_or heads i d) g) ≡ derive_chosen atoms chosen rows (drop i heads) g
derive_chosen-next atoms chosen rows heads i d g h = ap (λ as_. derive_chosen atoms chosen rows as_ g) (sym (drop_more heads i d h))

-- ---- how much work is left

abbrev pub work : Growing → ℕ
work g = left g.counts

pub work-derive : (rows : List (List Entry)) (i : ℕ) (g : Growing) → work (derive rows i g) ≡ work g
work-derive rows i g = cond_both (get_or g.derived i false) g _ (λ (h : Growing). work h ≡ work g) (λ e. refl) (λ e. left-take_off_all (get_or rows i []) g.counts)

pub work-derive_chosen : (atoms : List ℕ) (chosen : List Bool) (rows : List (List Entry)) (as_ : List ℕ) (g : Growing) → work (derive_chosen atoms chosen rows as_ g) ≡ work g
work-derive_chosen atoms chosen rows [] g = refl
work-derive_chosen atoms chosen rows (a ∷ as_) g =
    work-derive_chosen atoms chosen rows as_ (derive_if_chosen atoms chosen rows a g)
    ∙ cond_both (flag atoms chosen a) _ g (λ (h : Growing). work h ≡ work g) (λ e. work-derive rows (place atoms a - 1) g) (λ e. refl)

pub work-derive_head : (atoms : List ℕ) (chosen : List Bool) (rows : List (List Entry)) (head : Head) (g : Growing) → work (derive_head atoms chosen rows head g) ≡ work g
work-derive_head atoms chosen rows Nothing g = refl
work-derive_head atoms chosen rows (One a) g = work-derive rows (place atoms a - 1) g
work-derive_head atoms chosen rows (Choice as_) g = work-derive_chosen atoms chosen rows as_ g
