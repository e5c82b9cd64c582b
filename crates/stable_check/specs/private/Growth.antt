-- How the least model grows: an atom that is derived takes off its weights from what the rules
-- lack.
use Rattle.std.specs.Prelude.{ℕ, ◌-◌, ◌==◌, nat_lt, ◌&&◌, Bool, true, false, cond, List, [], ◌∷◌, ◌++◌, get_or, set}
use Rattle.rising_numbers.specs.Rising.{place}
use Rattle.ground_program.specs.declared.program.Head.{Head}
use Rattle.ground_program.specs.declared.program.Head.TheVariants.{Nothing, One, Choice}
use Rattle.stable_check.specs.private.Lack.{flag}
use Rattle.stable_check.specs.private.Links.{Entry}

-- what each rule lacks, and rules that lack nothing and wait to derive their heads
pub record Counts : Type 0 where
  pub lacks : List ℕ
  pub ready : List ℕ

-- it was more than nothing, and is nothing now
abbrev pub comes_to_zero : ℕ → ℕ → Bool
comes_to_zero before after = nat_lt 0 before && (after == 0)

-- takes off a weight from what a rule lacks
abbrev pub take_off : Entry → Counts → Counts
take_off entry c = let before : ℕ = get_or c.lacks entry.0 0 in record {
  lacks = set c.lacks entry.0 (before - entry.1);
  ready = cond (comes_to_zero before (before - entry.1)) (c.ready ++ (entry.0 ∷ [])) c.ready;
}

abbrev pub take_off_all : List Entry → Counts → Counts
take_off_all [] c = c
take_off_all (entry ∷ entries) c = take_off_all entries (take_off entry c)

-- the atoms that were derived, by their flags, and what the rules lack with them
pub record Growing : Type 0 where
  pub derived : List Bool
  pub counts : Counts

-- derives the atom with this index, unless it was
abbrev pub derive : List (List Entry) → ℕ → Growing → Growing
derive rows i g =
    cond (get_or g.derived i false) g
    (record {
      derived = set g.derived i true;
      counts = take_off_all (get_or rows i []) g.counts;
    })

-- derives an atom, if it is in the set
abbrev pub derive_if_chosen : List ℕ → List Bool → List (List Entry) → ℕ → Growing → Growing
derive_if_chosen atoms chosen rows a g =
    cond (flag atoms chosen a) (derive rows (place atoms a - 1) g) g

-- derives the atoms of a choice that are in the set
abbrev pub derive_chosen : List ℕ → List Bool → List (List Entry) → List ℕ → Growing → Growing
derive_chosen atoms chosen rows [] g = g
derive_chosen atoms chosen rows (a ∷ as_) g =
    derive_chosen atoms chosen rows as_ (derive_if_chosen atoms chosen rows a g)

-- derives what a head may
abbrev pub derive_head : List ℕ → List Bool → List (List Entry) → Head → Growing → Growing
derive_head atoms chosen rows Nothing g = g
derive_head atoms chosen rows (One a) g = derive rows (place atoms a - 1) g
derive_head atoms chosen rows (Choice as_) g = derive_chosen atoms chosen rows as_ g
