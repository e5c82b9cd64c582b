-- The pairs that the lemmas count are those of the components.
use Rattle.std.proofs.Common.{◌≡◌, refl, sym, ◌∙◌, ap, ap₂, subst, ℕ, ◌+◌, ◌*◌, ◌==◌, Bool, true, false, cond, ◌||◌, List, map, filter, length, arith}
use Rattle.std.specs.List.{list_any}
use Rattle.std.proofs.lemmas.List.Sums.{length-filter}
use Rattle.components.specs.Components.{number_of}
use Rattle.components.specs.Divided.{Divided, cyclic_numbers, cyclic_parts, members_of, part_of}
use Rattle.components.specs.Parts.{ArePartsOf}
use Rattle.components.proofs.MemberLaws.{enters-numbered, occurrences-numbered}
use Rattle.ground_program.specs.Dependencies.{positives_of_body}
use Rattle.ground_program.specs.Facts.{IsProgram, Among, RuleFits}
use Rattle.ground_program.specs.Ground.{Ground}
use Rattle.ground_program.specs.Normal.{IsNormalHead, IsNormalBody, AreNormal}
use Rattle.ground_program.specs.Occurrences.{atoms_of_head}
use Rattle.ground_program.specs.Tangle.{enters, occurrences, links, part_pairs}
use Rattle.ground_program.specs.Tangle as tangle
use Rattle.ground_program.specs.declared.program.Head.{Head}
use Rattle.ground_program.specs.declared.program.Head.TheVariants.{Nothing, One, Choice}
use Rattle.ground_program.specs.declared.program.Rule.{Rule}
use Rattle.tangle_laws.proofs.PartSums.{total-both, total-kept}
use Rattle.acyc_edges.specs.Encoding.{has_head_in}
use Rattle.acyc_edges.specs.private.Pairs.{rules_in, occurrences_in, pairs_in, pairs}
use Rattle.acyc_edges.proofs.Inside.{each-in}
use Rattle.acyc_edges.proofs.Totals.{total-sum_by, total-map, total-same, total-one}
use Rattle.asp_base.specs.Sets.{In}

any-head : (S : ℕ → Bool) (head : Head) → IsNormalHead head → list_any S (atoms_of_head head) ≡ has_head_in S head
any-head S Nothing n = refl
any-head S (One a) n = nothing-more (S a)
  where
    nothing-more : (b : Bool) → (b || false) ≡ b
    nothing-more true = refl
    nothing-more false = refl
any-head S (Choice as_) n = absurd n

module _ (P : Ground) (program : IsProgram P) (normal : AreNormal P.rules) (numbers : List ℕ) (parts : List ℕ) where
  abbrev part : ℕ → ℕ
  part = number_of P.atoms numbers

  abbrev o : ℕ → Rule → ℕ
  o c rule = length (filter (λ b. part b == c) (positives_of_body rule.body))

  abbrev heads : ℕ → Rule → Bool
  heads c rule = has_head_in (λ a. part a == c) rule.head

  fits : (rule : Rule) → In rule P.rules → RuleFits (Among P.atoms) rule
  fits rule i = each-in (RuleFits (Among P.atoms)) P.rules rule program.rules i

  is-normal : (rule : Rule) → In rule P.rules → IsNormalHead rule.head × IsNormalBody rule.body
  is-normal rule i = each-in (λ r. IsNormalHead r.head × IsNormalBody r.body) P.rules rule normal i

  enters-is : (c : ℕ) (rule : Rule) → In rule P.rules → enters (members_of c P.atoms numbers) rule ≡ heads c rule
  enters-is c rule i = enters-numbered P.atoms numbers c rule (fits rule i) ∙ any-head (λ a. part a == c) rule.head (is-normal rule i).0

  occurs-is : (c : ℕ) (rule : Rule) → In rule P.rules → occurrences (members_of c P.atoms numbers) rule ≡ o c rule
  occurs-is c rule i = occurrences-numbered P.atoms numbers c rule (fits rule i) ∙ sym (length-filter (λ b. part b == c) (positives_of_body rule.body))

  links-are : (c : ℕ) → links P.rules (members_of c P.atoms numbers) ≡ length (rules_in P part parts c) + occurrences_in P part parts c
  links-are c =
      sym (total-sum_by (λ rule. cond (enters (members_of c P.atoms numbers) rule) (1 + occurrences (members_of c P.atoms numbers) rule) 0) P.rules)
      ∙ (total-same (λ rule. cond (enters (members_of c P.atoms numbers) rule) (1 + occurrences (members_of c P.atoms numbers) rule) 0) (λ rule. cond (heads c rule) (1 + o c rule) 0) P.rules
      (λ rule i. ap₂ (λ (b : Bool) n. cond b (1 + n) 0) (enters-is c rule i) (occurs-is c rule i))
      ∙ (sym (total-kept (heads c) (λ rule. 1 + o c rule) P.rules)
      ∙ (total-both (λ rule. 1) (o c) (rules_in P part parts c)
      ∙ ap₂ (λ m n. m + n) (total-one (rules_in P part parts c)) (total-sum_by (o c) (rules_in P part parts c)))))

  part-is : (c : ℕ) → part_pairs P.rules (members_of c P.atoms numbers) ≡ pairs_in P part parts c
  part-is c = ap (λ n. length (members_of c P.atoms numbers) * n)
      (let l : links P.rules (members_of c P.atoms numbers) ≡ length (rules_in P part parts c) + occurrences_in P part parts c = links-are c in
      let e : length (members_of c P.atoms numbers) + links P.rules (members_of c P.atoms numbers) ≡ length (members_of c P.atoms numbers) + length (rules_in P part parts c) + occurrences_in P part parts c = omega arith in e)

  pairs-numbered : tangle.pairs P.rules (map (λ i. members_of i P.atoms numbers) parts) ≡ pairs P part parts
  pairs-numbered =
      sym (total-sum_by (part_pairs P.rules) (map (λ i. members_of i P.atoms numbers) parts))
      ∙ (total-map (part_pairs P.rules) (λ i. members_of i P.atoms numbers) parts
      ∙ (total-same (λ i. part_pairs P.rules (members_of i P.atoms numbers)) (pairs_in P part parts) parts (λ c i. part-is c)
      ∙ total-sum_by (pairs_in P part parts) parts))

-- for the components of a program
pub pairs-of : (P : Ground) → IsProgram P → AreNormal P.rules → (d : Divided) → ArePartsOf P d → tangle.pairs P.rules (cyclic_parts d) ≡ pairs P (part_of d) (cyclic_numbers d)
pairs-of P program normal d are =
    subst (λ as_. tangle.pairs P.rules (map (λ i. members_of i as_ d.numbers) (cyclic_numbers d)) ≡ pairs P (number_of as_ d.numbers) (cyclic_numbers d)) (sym are.atoms)
    (pairs-numbered P program normal d.numbers (cyclic_numbers d))
