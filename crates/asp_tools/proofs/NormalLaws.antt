-- What `check` says of a program that stands for another, and which programs smodels text has.
use Rattle.std.proofs.Common.{◌≡◌, refl, sym, ◌∙◌, ap, ap₂, subst, ℕ, suc, ◌+◌, ◌≤◌, ◌^◌, Bool, true, false, ◌&&◌, List, [], ◌∷◌, length, Result, Ok, Err, IfOk, pos, arith}
use Rattle.std.specs.Prelude.{int_le, if◌then◌else◌}
use mathlib.Core.Path.{fun_ext}
use Rattle.std.specs.List.{filter, list_all, AllByRecursion, sum_by}
use Rattle.std.proofs.lemmas.List.Sums.{sum_by-cons}
use Rattle.asp_base.specs.Sets.{Set, members, cut, Same, Within}
use Rattle.asp_base.proofs.Each.{each-append}
use Rattle.ground_program.specs.Facts.{IsProgram, IsShort, Among}
use Rattle.ground_program.specs.Faithful.{Faithful}
use Rattle.ground_program.specs.Ground.{Ground}
use Rattle.ground_program.specs.Normal.{IsNormalHead, IsNormalBody, AreNormal}
use Rattle.ground_program.specs.Room.{room}
use Rattle.ground_program.specs.Size.{size}
use Rattle.ground_program.specs.Stable.{Stable, visible, cost}
use Rattle.ground_program.specs.declared.program.Head.{Head}
use Rattle.ground_program.specs.declared.program.Head.TheVariants.{Nothing, One, Choice}
use Rattle.ground_program.specs.declared.program.Body.{Body}
use Rattle.ground_program.specs.declared.program.Body.TheVariants.{All, Sum}
use Rattle.ground_program.specs.declared.program.Edge.{Edge}
use Rattle.ground_program.specs.declared.program.Level.{Level}
use Rattle.ground_program.specs.declared.program.Rule.{Rule}
use Rattle.ground_program.specs.declared.program.Show.{Show}
use Rattle.ground_program.proofs.Compose.{Faithful-compose}
use Rattle.ground_program.proofs.FactLaws.{Stable-among}
use Rattle.ground_program.proofs.Plain.{members-filtered}
use Rattle.smodels_format.specs.Lowering.{lowered, rule_draws, rules_lowered, show_rules, is_single, after_rules, first_index}
use Rattle.smodels_format.specs.Writable.{has_none, is_writable_name}
use Rattle.normalize.specs.Kept.{SameRest, room_limit, with_facts}
use Rattle.asp_base.specs.declared.faults.Memory.{Memory}
use Rattle.job_shell.specs.declared.command.Reply.{Reply}
use Rattle.asp_tools.specs.CheckAnswers.{Checks}
use Rattle.asp_tools.specs.NormalAnswers.{StandsFor, StandsByRules, IsWritten, is_writable_as}
use Rattle.asp_tools.specs.private.Normalizing.{IsTextOf, AreTextOf, NormalGroundReply}
use Rattle.asp_tools.specs.declared.answer.Answer.{Answer}
use Rattle.asp_tools.specs.declared.answer.Answer.TheVariants.{Done}
use Rattle.asp_tools.specs.declared.command.TextFormat.{TextFormat}
use Rattle.asp_tools.specs.declared.command.TextFormat.TheVariants.{Aspif, Smodels}
use Rattle.asp_tools.specs.Sayings.{stable_text}
use Rattle.asp_tools.specs.declared.answer.Answer.TheVariants as answers

-- ---- a set that is checked, and its cut

pub checks-cut : (P N : Ground) (atoms said : List ℕ) → Faithful P N → Checks N atoms answers.Done said
    → Checks P (filter (members P.atoms) atoms) answers.Done said
checks-cut P N atoms said f h =
    subst (λ X. Stable P X × (said ≡ stable_text (visible P X) (cost P X)))
    (sym (fun_ext (members-filtered (members P.atoms) atoms))) (
      f.covers.stable (members atoms) h.0,
      h.1 ∙ (ap (λ ns. stable_text ns (cost N (members atoms))) (f.covers.names (members atoms) h.0)
          ∙ ap (stable_text (visible P (cut P.atoms (members atoms)))) (f.covers.costs (members atoms) h.0)),
    )

inside : (X : Set) (xs : List ℕ) → ((a : ℕ) → X a ≡ true → members xs a ≡ true)
    → members (filter X xs) ≡ X
inside X xs w = fun_ext (λ a. members-filtered X xs a ∙ go (X a) (members xs a) (w a))
  where
    go : (s t : Bool) → (s ≡ true → t ≡ true) → (s && t) ≡ s
    go true t h = h refl
    go false t h = refl

pub checks-onto : (P N : Ground) (atoms said : List ℕ) → IsProgram N → Faithful P N
    → Checks P atoms answers.Done said
    → (more : List ℕ) × Checks N more answers.Done said × Same (cut P.atoms (members more)) (members atoms)
checks-onto P N atoms said is f h =
    let k : (K : Set) × Stable N K × Same (cut P.atoms K) (members atoms) = f.covers.onto (members atoms) h.0 in
    let same : cut P.atoms k.0 ≡ members atoms = fun_ext k.2 in
    let e : members (filter k.0 N.atoms) ≡ k.0 = inside k.0 N.atoms (Stable-among N k.0 is k.1) in (
      filter k.0 N.atoms,
      subst (λ X. Stable N X × (said ≡ stable_text (visible N X) (cost N X))) (sym e) (
        k.1,
        h.1 ∙ sym (ap₂ stable_text
            (f.covers.names k.0 k.1 ∙ ap (visible P) same) (f.covers.costs k.0 k.1 ∙ ap (cost P) same)),
      ),
      λ a. ap (λ X. cut P.atoms X a) e ∙ k.2 a,
    )

-- ---- smodels text of normal rules

module _ (new : ℕ → ℕ) (refuted : ℕ) where
  rules-normal : (n : ℕ) (rules : List Rule) → AreNormal rules → AreNormal (rules_lowered new refuted n rules)
  rules-normal n [] h = tt
  rules-normal n (rule ∷ rules) h = go rule.head rule.body h.0 (rules-normal (n + rule_draws rule.head rule.body) rules h.1)
    where
      go : (head : Head) (body : Body) → IsNormalHead head × IsNormalBody body
          → AreNormal (rules_lowered new refuted (n + rule_draws head body) rules)
          → AreNormal (rules_lowered new refuted n (record { head = head; body = body } ∷ rules))
      go Nothing (All lits) h k = ((tt, tt), k)
      go Nothing (Sum bound items) h k = absurd h.1
      go (One a) (All lits) h k = ((tt, tt), k)
      go (One a) (Sum bound items) h k = absurd h.1
      go (Choice as_) body h k = absurd h.0

shows-normal : (new : ℕ → ℕ) (n : ℕ) (shows : List Show) → AreNormal (show_rules new n shows)
shows-normal new n [] = tt
shows-normal new n (show ∷ shows) =
    either (is_single show.condition) _ _ (shows-normal new n shows) ((tt, tt), shows-normal new (suc n) shows)
  where
    either : (t : Bool) (xs ys : List Rule) → AreNormal xs → AreNormal ys → AreNormal (if t then xs else ys)
    either true xs ys h k = h
    either false xs ys h k = k

pub lowered_normal : (P : Ground) → AreNormal P.rules → AreNormal (lowered P).rules
lowered_normal P h =
    each-append _ _ _
    (each-append _ _ _ (rules-normal _ _ (first_index P) P.rules h) (shows-normal _ (after_rules (first_index P) P.rules) P.shows))
    tt

-- ---- levels of a small program

short-each : (n : ℕ) (levels : List Level) → sum_by (λ level. 1 + length level.items) levels ≤ n → n ≤ 2 ^ 24
    → AllByRecursion (λ level. IsShort level.items) levels
short-each n [] l m = tt
short-each n (level ∷ levels) l m =
    let e : sum_by (λ level. 1 + length level.items) (level ∷ levels)
    ≡ 1 + length level.items + sum_by (λ level. 1 + length level.items) levels =
    sum_by-cons (λ level. 1 + length level.items) level levels in
    (omega arith, short-each n levels (omega arith) m)

pub levels_short : (P : Ground) → size P ≤ 2 ^ 24 → AllByRecursion (λ level. IsShort level.items) P.levels
levels_short P l = short-each (size P) P.levels (omega arith) l

-- ---- the program that is made, and the text of it

pub writable_same : (format : TextFormat) (P N : Ground) → SameRest P N → is_writable_as format P ≡ true
    → is_writable_as format N ≡ true
writable_same Aspif P N r w = refl
writable_same Smodels P N r w =
    ap (λ (edges : List Edge). has_none edges
    && (list_all (λ level. list_all (λ item. int_le (pos 0) item.1) level.items) N.levels
    && list_all (λ show. is_writable_name show.name) N.shows)) r.edges
    ∙ (ap (λ (levels : List Level). has_none P.edges
    && (list_all (λ level. list_all (λ item. int_le (pos 0) item.1) level.items) levels
    && list_all (λ show. is_writable_name show.name) N.shows)) r.levels
    ∙ (ap (λ (shows : List Show). has_none P.edges
    && (list_all (λ level. list_all (λ item. int_le (pos 0) item.1) level.items) P.levels
    && list_all (λ show. is_writable_name show.name) shows)) r.shows ∙ w))

written : (format : TextFormat) (P N : Ground) (target : List ℕ) → StandsFor P N → StandsByRules P N
    → IsTextOf format N target → IsWritten format P target
written Aspif P N target s b k = (N, k, s, b)
written Smodels P N target s b k = (
  lowered N,
  k.0,
  record {
    normal = lowered_normal N s.normal;
    faithful = Faithful-compose P N (lowered N) b.atoms s.faithful k.1;
  },
)

pub normal_replied : (format : TextFormat) (P N : Ground) → is_writable_as format P ≡ true → room P ≤ room_limit
    → AreNormal N.rules → Faithful P N
    → ((facts : List ℕ) → AllByRecursion (Among P.atoms) facts → Faithful (with_facts facts P) (with_facts facts N))
    → Within (members P.atoms) (members N.atoms) → size N ≤ room P → (AreNormal P.rules → N ≡ P)
    → (reply : Result (Reply Answer) Memory)
    → IfOk reply (λ r. r.answer ≡ Done) → IfOk reply (λ r. AreTextOf format N r.made)
    → IfOk reply (λ r. r.said ≡ [])
    → IfOk reply (λ r. NormalGroundReply format P r.answer r.made r.said)
normal_replied format P N w l n f facts atoms size same (Err memory) h k m = h
normal_replied format P N w l n f facts atoms size same (Ok r) h k m = go r.answer r.made h k
  where
    go : (answer : Answer) (made : List (List ℕ)) → answer ≡ Done → AreTextOf format N made
        → NormalGroundReply format P answer made r.said
    go answer [] h k = absurd k
    go answer (target ∷ []) h k =
        subst (λ a. NormalGroundReply format P a (target ∷ []) r.said) (sym h) (
          (
            w,
            l,
            written format P N target (record { normal = n; faithful = f })
                (record { facts = facts; atoms = atoms; size = size; same = same }) k,
          ),
          refl,
          m,
        )
    go answer (target ∷ next ∷ rest) h k = absurd k
