-- The tables of the commands: from the texts to their reply.
use Rattle.std.proofs.Common.{◌≡◌, refl, sym, ◌∙◌, ap, subst, ℕ, suc, ◌+◌, false, List, [], ◌∷◌, ◌++◌, length, Result, Ok, Err, IfOk, arith}
use mathlib.Core.Path.{fun_ext}
use Rattle.std.proofs.lemmas.Bool.{true≢false}
use Rattle.std.proofs.lemmas.List.{length-append}
use Rattle.asp_base.specs.Literal.{Pos}
use Rattle.asp_base.specs.Sets.{Set}
use Rattle.clause_store.specs.Clauses.{Clauses}
use Rattle.symbol_map.specs.Symbols.{Symbols}
use Rattle.asp_base.specs.Faults.{Fault}
use Rattle.asp_base.specs.declared.faults.Memory.{Memory}
use Rattle.job_shell.specs.declared.command.Reply.{Reply}
use Rattle.back_map.specs.Read.{Answered, has}
use Rattle.back_map.specs.declared.answer.AnswerKind.{AnswerKind}
use Rattle.back_map.specs.declared.answer.Status.TheVariants.{Satisfied}
use Rattle.asp_tools.specs.BackAnswers.{values_of, Judges, OfAnswer}
use Rattle.asp_tools.specs.Calls.{says_of}
use Rattle.asp_tools.specs.private.OnValues.{OnValues}
use Rattle.asp_tools.specs.private.Replying.{IsSilent, Replying}
use Rattle.asp_tools.specs.declared.answer.Answer.{Answer}
use Rattle.asp_tools.specs.declared.answer.Answer.TheVariants.{Done, Refused, Rejected, NoModelGiven, TooLarge}
use Rattle.asp_tools.specs.declared.outcome.Why.TheVariants.{Clause, Rule, Requirement, Unfounded, Cycle}

-- ---- texts that are taken from behind

empty : (xs : List (List ℕ)) → length xs ≡ 0 → xs ≡ []
empty [] h = refl
empty (x ∷ xs) h = absurd (omega (arith, h))

front-count : (xs ys : List (List ℕ)) (a : List ℕ) (n : ℕ) → xs ≡ ys ++ (a ∷ []) → length xs ≡ suc n → length ys ≡ n
front-count xs ys a n e h = let both : length xs ≡ length ys + 1 = ap length e ∙ length-append ys (a ∷ []) in omega (arith, h)

pub one-text : (xs ys : List (List ℕ)) (a : List ℕ) → xs ≡ ys ++ (a ∷ []) → length xs ≡ 1 → xs ≡ a ∷ []
one-text xs ys a e h = e ∙ ap (λ zs. zs ++ (a ∷ [])) (empty ys (front-count xs ys a 0 e h))

pub two-texts : (xs ys zs : List (List ℕ)) (a b : List ℕ) → xs ≡ ys ++ (b ∷ []) → ys ≡ zs ++ (a ∷ []) → length xs ≡ 2 → xs ≡ a ∷ b ∷ []
two-texts xs ys zs a b e f h = e ∙ ap (λ ws. ws ++ (b ∷ [])) (one-text ys zs a f (front-count xs ys b 1 e h))

pub three-texts : (xs ys zs ws : List (List ℕ)) (a b c : List ℕ) → xs ≡ ys ++ (c ∷ []) → ys ≡ zs ++ (b ∷ []) → zs ≡ ws ++ (a ∷ []) → length xs ≡ 3 → xs ≡ a ∷ b ∷ c ∷ []
three-texts xs ys zs ws a b c e f g h = e ∙ ap (λ vs. vs ++ (c ∷ [])) (two-texts ys zs ws a b f g (front-count xs ys c 2 e h))

-- ---- what is said

pub silent-said : (answer : Answer) (said : List ℕ) → IsSilent answer said → says_of answer ≡ false → said ≡ []
silent-said Done said h e = absurd (true≢false e)
silent-said (Refused refused) said h e = h
silent-said (Rejected why) said h e = absurd (true≢false e)
silent-said NoModelGiven said h e = absurd (true≢false e)
silent-said (TooLarge number) said h e = h

-- ---- the values of an answer

pub values-judge : (F : Clauses) (m : Symbols) (A : Set) (x : Answered) (answer : Answer) (said : List ℕ) → x.status ≡ Satisfied → ((v : ℕ) → A v ≡ has (Pos v) x.lits) → OnValues F m A answer said → Judges F m x answer said
values-judge F m A x answer said status same h = go answer (subst (λ B. OnValues F m B answer said) (fun_ext same) h)
  where
    go : (answer : Answer) → OnValues F m (values_of x) answer said → Judges F m x answer said
    go Done h = (status, h.0, h.1)
    go (Rejected (Clause place)) h = (status, h.0, h.1)
    go (Rejected (Rule place)) h = h
    go (Rejected (Requirement place)) h = h
    go (Rejected (Unfounded atoms)) h = h
    go (Rejected (Cycle walk)) h = (status, h.0, h.1, h.2)
    go NoModelGiven h = absurd h
    go (Refused refused) h = h
    go (TooLarge number) h = h

pub answer-judged : (F : Clauses) (m : Symbols) (A : Set) (read : Result Answered (Fault AnswerKind)) (x : Answered) → read ≡ Ok x → x.status ≡ Satisfied → ((v : ℕ) → A v ≡ has (Pos v) x.lits)
    → (reply : Result (Reply Answer) Memory) → IfOk reply (λ r. Replying (OnValues F m A) r.answer r.made r.said) → IfOk reply (λ r. Replying (OfAnswer F m read) r.answer r.made r.said)
answer-judged F m A read x e status same (Err memory) h = h
answer-judged F m A read x e status same (Ok r) h = (subst (λ k. OfAnswer F m k r.answer r.said) (sym e) (values-judge F m A x r.answer r.said status same h.0), h.1, h.2)
