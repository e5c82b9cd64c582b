-- The program that normalization makes is faithful to the given one, and stays so with the same
-- facts added to both.
use Rattle.std.proofs.Common.{◌≡◌, refl, sym, ◌∙◌, ap, subst, ℕ, List, [], ◌∷◌, ◌++◌, map, append-nil, arith}
use Rattle.std.specs.List.{AllByRecursion}
use Rattle.std.proofs.lemmas.Bool.{or_right}
use Rattle.asp_base.specs.Literal.{Literal}
use Rattle.asp_base.specs.Sets.{none, members, union}
use Rattle.ground_program.specs.Facts.{Among, IsProgram, RuleFits, IsShort}
use Rattle.ground_program.specs.Faithful.{Faithful}
use Rattle.ground_program.specs.Ground.{Ground}
use Rattle.normalize.specs.private.Replacement.{RulesIn, Replaces}
use Rattle.normalize.specs.Kept.{SameRest, fact, with_facts}
use Rattle.normalize.specs.private.Stage.{Stage, start, Turns}
use Rattle.normalize.proofs.Reading.{rules-of, rules-wider}
use Rattle.asp_base.proofs.Each.{each-append}
use Rattle.normalize.proofs.SamePieces.{same_set, Replaces-same, Replaces-more}
use Rattle.normalize.proofs.Faithfulness.{Replaces-faithful}

-- facts over atoms of a program
facts-fit : (atoms facts : List ℕ) → AllByRecursion (Among atoms) facts
    → AllByRecursion (RuleFits (Among atoms)) (map fact facts)
facts-fit atoms [] h = tt
facts-fit atoms (a ∷ facts) h = ((h.0, (short, tt)), facts-fit atoms facts h.1)
  where
    short : IsShort {A = Literal} []
    short = omega arith

facts-program : (P : Ground) (facts : List ℕ) → IsProgram P → AllByRecursion (Among P.atoms) facts
    → IsProgram (with_facts facts P)
facts-program P facts f h = record {
  atoms_rise = f.atoms_rise;
  atoms_fit = f.atoms_fit;
  rules = each-append _ P.rules (map fact facts) f.rules (facts-fit P.atoms facts h);
  required = f.required;
  edges = f.edges;
  nodes = f.nodes;
  levels = f.levels;
  priorities = f.priorities;
  priorities_fit = f.priorities_fit;
  shows = f.shows;
}

pub Turns-faithful : (P Q : Ground) (t : Stage) → IsProgram P → SameRest P Q → Q.rules ≡ t.rules
    → Turns P.rules (start P.atoms) t →
    (facts : List ℕ) → AllByRecursion (Among P.atoms) facts
    → Faithful (with_facts facts P) (with_facts facts Q)
Turns-faithful P Q t f rest made p facts h =
    Replaces-faithful (with_facts facts P) (with_facts facts Q) (facts-program P facts f h)
    (record {
      required = rest.required;
      edges = rest.edges;
      levels = rest.levels;
      shows =
          rest.shows;
    })
    (union p.fresh none) t.pairs (λ X N. p.extend X N) whole
  where
    over : RulesIn (members P.atoms) (members P.atoms) (map fact facts)
    over = rules-of P.atoms (map fact facts) (facts-fit P.atoms facts h)

    joined : Replaces (members P.atoms) (members P.atoms) (union p.fresh none) [] t.pairs
        (P.rules ++ map fact facts) (p.new ++ map fact facts) (λ X N. p.extend X N)
    joined =
        Replaces-more (members P.atoms) (members P.atoms) p.fresh none [] t.pairs t.pairs P.rules
        p.new (map fact facts) (map fact facts) p.extend same_set over p.replaces
        (Replaces-same (members P.atoms) (union p.fresh (members P.atoms)) t.pairs (map fact facts)
        (map fact facts)
        (λ a e. or_right (p.fresh a) _ e)
        (rules-wider (members P.atoms) (members P.atoms) (members P.atoms)
        (union p.fresh (members P.atoms)) (λ a e. e) (λ a e. or_right (p.fresh a) _ e)
        (map fact facts) over)
        (λ X N r a. refl) (λ X N r. refl))

    whole : Replaces (members P.atoms) (members P.atoms) (union p.fresh none) [] t.pairs
        (P.rules ++ map fact facts) (Q.rules ++ map fact facts) (λ X N. p.extend X N)
    whole =
        subst (λ rules. Replaces (members P.atoms) (members P.atoms) (union p.fresh none) [] t.pairs
        (P.rules ++ map fact facts) (rules ++ map fact facts) (λ X N. p.extend X N))
        (sym (made ∙ p.rules)) joined

-- without facts
pub Turns-faithful-itself : (P Q : Ground) (t : Stage) → IsProgram P → SameRest P Q
    → Q.rules ≡ t.rules → Turns P.rules (start P.atoms) t → Faithful P Q
Turns-faithful-itself P Q t f rest made p =
    subst (λ N. Faithful N Q) (plain P)
    (subst (λ N. Faithful (with_facts [] P) N) (plain Q)
    (Turns-faithful P Q t f rest made p [] tt))
  where
    plain : (N : Ground) → with_facts [] N ≡ N
    plain N = ap (λ rules. record N { rules = rules }) (append-nil N.rules)
