-- A lowered program shows the names that the program shows.
use Rattle.asp_base.proofs.Bools.{and_true}
use Rattle.std.proofs.Common.{◌≡◌, refl, sym, ◌∙◌, ap, ap₂, ℕ, suc, Bool, true, false, cond, List, [], ◌∷◌, map, filter}
use Rattle.std.specs.List.{AllByRecursion}
use Rattle.std.proofs.lemmas.Bool.{true≢false}
use Rattle.asp_base.specs.Literal.{Literal, Pos, Neg, all_hold}
use Rattle.asp_base.specs.Sets.{Set}
use Rattle.ground_program.specs.Facts.{Among, ShowFits}
use Rattle.ground_program.specs.Stable.{holds, names_of, first_ones}
use Rattle.ground_program.specs.declared.program.Body.TheVariants.{All}
use Rattle.ground_program.specs.declared.program.Show.{Show}
use Rattle.smodels_format.specs.Lowering.{symbols_from, is_single, single_atom}
use Rattle.smodels_format.specs.Parts.{show_of}
use Rattle.smodels_format.proofs.LoweredNear.{Near, all_hold-near}
use Rattle.smodels_format.proofs.LoweredFresh.{Whether, ShowsNamed}

single-is : (lits : List Literal) → is_single lits ≡ true → Pos (single_atom lits) ∷ [] ≡ lits
single-is [] e = absurd (true≢false (sym e))
single-is (Neg a ∷ lits) e = absurd (true≢false (sym e))
single-is (Pos a ∷ []) e = refl
single-is (Pos a ∷ l ∷ lits) e = absurd (true≢false (sym e))

name-cond : (b : Bool) (show : Show) (shows : List Show) → map (λ s. s.name) (cond b (show ∷ shows) shows) ≡ cond b (show.name ∷ map (λ s. s.name) shows) (map (λ s. s.name) shows)
name-cond true show shows = refl
name-cond false show shows = refl

-- the shows whose condition holds
abbrev shown : List Show → Set → List Show
shown shows M = filter (λ show. all_hold show.condition M M) shows

module _ (new : ℕ → ℕ) (atoms : List ℕ) (N M : Set) (near : Near atoms N M) where
  -- one show more, whose name and condition are as those of another
  one-more : (show other : Show) (shows others : List Show) → other.name ≡ show.name → all_hold other.condition N N ≡ all_hold show.condition M M →
      map (λ s. s.name) (shown others N) ≡ map (λ s. s.name) (shown shows M) →
      map (λ s. s.name) (shown (other ∷ others) N) ≡ map (λ s. s.name) (shown (show ∷ shows) M)
  one-more show other shows others n h e =
      name-cond (all_hold other.condition N N) other (shown others N)
      ∙ (ap₂ (λ b ns. cond b (other.name ∷ ns) ns) h e
      ∙ (ap (λ w. cond (all_hold show.condition M M) (w ∷ map (λ s. s.name) (shown shows M)) (map (λ s. s.name) (shown shows M))) n
      ∙ sym (name-cond (all_hold show.condition M M) show (shown shows M))))

  shown-same : (n : ℕ) (shows : List Show) → AllByRecursion (ShowFits (Among atoms)) shows → ShowsNamed new N M M n shows →
      map (λ s. s.name) (shown (map show_of (symbols_from new n shows)) N) ≡ map (λ s. s.name) (shown shows M)
  shown-same n [] f k = refl
  shown-same n (show ∷ shows) f k = go (is_single show.condition) refl k (shown-same n shows f.1) (shown-same (suc n) shows f.1)
    where
      go : (b : Bool) → is_single show.condition ≡ b →
          Whether b (ShowsNamed new N M M n shows) ((N (new n) ≡ holds (All show.condition) M M) × ShowsNamed new N M M (suc n) shows) →
          (ShowsNamed new N M M n shows → map (λ s. s.name) (shown (map show_of (symbols_from new n shows)) N) ≡ map (λ s. s.name) (shown shows M)) →
          (ShowsNamed new N M M (suc n) shows → map (λ s. s.name) (shown (map show_of (symbols_from new (suc n) shows)) N) ≡ map (λ s. s.name) (shown shows M)) →
          map (λ s. s.name) (shown (map show_of (cond b ((single_atom show.condition, show.name) ∷ symbols_from new n shows) ((new n, show.name) ∷ symbols_from new (suc n) shows))) N)
          ≡ map (λ s. s.name) (shown (show ∷ shows) M)
      go true e k p q =
          one-more show (show_of (single_atom show.condition, show.name)) shows (map show_of (symbols_from new n shows)) refl
          (ap (λ lits. all_hold lits N N) (single-is show.condition e) ∙ all_hold-near atoms N M N M near near show.condition f.0.1.1) (p k)
      go false e k p q = one-more show (show_of (new n, show.name)) shows (map show_of (symbols_from new (suc n) shows)) refl (and_true (N (new n)) ∙ k.0) (q k.1)

  pub names-same : (n : ℕ) (shows : List Show) → AllByRecursion (ShowFits (Among atoms)) shows → ShowsNamed new N M M n shows →
      names_of (map show_of (symbols_from new n shows)) N ≡ names_of shows M
  names-same n shows f k = ap first_ones (shown-same n shows f k)
