-- A new atom for literals: the one cell of a network of its own.
use Rattle.std.proofs.Common.{◌≡◌, refl, sym, ◌∙◌, ℕ, ◌≤◌, ◌^◌, true, None, List, [], ◌∷◌, ◌++◌, inr}
use Rattle.std.proofs.lemmas.Bool.{or_left, or_right, true≢false, eq-eqb}
use Rattle.asp_base.specs.Literal.{Literal, Pos, Neg, atom_of}
use Rattle.asp_base.specs.Sets.{members}
use Rattle.asp_base.proofs.Each.{each-weaker}
use Rattle.ground_program.specs.Dependencies.{positives_of_literals}
use Rattle.ground_program.specs.Fresh.{IsLeastFree, taken, least_free}
use Rattle.ground_program.specs.declared.program.Head.TheVariants.{One}
use Rattle.ground_program.specs.declared.program.Body.TheVariants.{All}
use Rattle.ground_program.proofs.FreshLaws.{least_free-is}
use Rattle.rule_network.specs.Block.{Block, empty_block, IsBlock, Known, AllKnown, with_atom, with_cell}
use Rattle.rule_network.proofs.BlockLaws.{IsBlock-with_atom, IsBlock-with_rule, all_before-new}
use Rattle.rule_network.proofs.CellLaws.{all-defines}
use Rattle.normalize.specs.private.Added.{AddsAnswer}
use Rattle.normalize.specs.private.Stage.{Stage, IsStage, known, LitsKnown, Answers, rule_over}
use Rattle.normalize.proofs.DistinctLaws.{members-each}
use Rattle.normalize.proofs.StageLaws.{begun-all, Answers-block}
use Rattle.normalize.proofs.Stages.{stage}

-- with a rule for one more atom
abbrev pub named : Stage → ℕ → List Literal → Stage
named v y lits =
    stage (v.rules ++ (rule_over (One y) lits ∷ []))
    (record v.supply { given = v.supply.given ++ (y ∷ []) }) v.pairs

module _ (v : Stage) (is : IsStage v) (lits : List Literal) (over : LitsKnown v lits)
    (small : least_free (taken v.supply) ≤ 2 ^ 30) where
  abbrev y : ℕ
  y = least_free (taken v.supply)

  abbrev begun : Block
  begun = empty_block v.supply None

  free : IsLeastFree (taken v.supply) y
  free = least_free-is (taken v.supply)

  begun-is : IsBlock (empty_block v.supply None)
  begun-is = record {
    atoms = tt;
    made = λ a m. absurd (true≢false (sym m));
    dense = λ a b m low l. absurd (true≢false (sym m));
    rules = tt;
  }

  literal-known : (l : Literal) → known v (atom_of l) ≡ true → Known (empty_block v.supply None) l
  literal-known (Pos a) h = (h, refl)
  literal-known (Neg a) h = (h, refl)

  lits-known : AllKnown (empty_block v.supply None) lits
  lits-known = each-weaker _ _ (λ l k. literal-known l k) lits over

  cell-is : IsBlock (with_cell (lits ∷ []) (empty_block v.supply None))
  cell-is = IsBlock-with_rule (with_atom y begun) y lits
      (IsBlock-with_atom begun y begun-is free small)
      (or_left _ _ (eq-eqb y y refl))
      (all_before-new begun y begun-is free lits lits-known)

  pub name-answers : Answers (All lits) (Pos (least_free (taken v.supply)) ∷ []) v
      (named v (least_free (taken v.supply)) lits)
  name-answers =
      let d = all-defines begun lits begun-is lits-known in
      Answers-block v is.pairs None (with_cell (lits ∷ []) begun) cell-is d.grew (All lits)
      (Pos y) d.known (λ X M. d.says X M ∙ begun-all v.supply None X M lits)

  pub name-adds : AddsAnswer (positives_of_literals lits) (Pos (least_free (taken v.supply)) ∷ []) v
      (named v (least_free (taken v.supply)) lits)
  name-adds = record {
    adds = record {
      drawn = y ∷ [];
      new = rule_over (One y) lits ∷ [];
      rules = refl;
      given = refl;
      apart = ((free.positive, free.free), tt);
      made = (
        record {
          normal = (tt, tt);
          head = (
            inr (
              or_left _ _ (eq-eqb y y refl),
              members-each (positives_of_literals lits) _ (λ b m. inr m),
            ),
            tt,
          );
          body = members-each (positives_of_literals lits) _
              (λ b m. or_right (members (y ∷ []) b) _ m);
        },
        tt,
      );
    };
    read = (or_left _ _ (or_left _ _ (eq-eqb y y refl)), tt);
  }
