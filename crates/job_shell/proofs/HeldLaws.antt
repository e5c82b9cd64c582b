-- What is told of the texts of several names.
use Rattle.std.proofs.Common.{◌≡◌, sym, ap₂, subst, List, [], ◌∷◌, ◌++◌, ℕ, Option, None, Some, IfSome}
use Rattle.std.proofs.lemmas.Option.{IfSome_then}
use Rattle.asp_base.specs.Desk.{DeskState}
use Rattle.job_shell.specs.Reads.{IfHeld}

pub held-then : (old : DeskState) (names : List (List ℕ)) (F G : List (List ℕ) → Type 0) → IfHeld old names F → ((texts : List (List ℕ)) → F texts → G texts) → IfHeld old names G
held-then old [] F G h f = f [] h
held-then old (name ∷ names) F G h f = IfSome_then (old.held name) h (λ text k. held-then old names (λ texts. F (text ∷ texts)) (λ texts. G (text ∷ texts)) k (λ texts. f (text ∷ texts)))

if-always : {A : Type 0} (o : Option A) (F : A → Type 0) → ((x : A) → F x) → IfSome o F
if-always None F f = tt
if-always (Some x) F f = f x

pub held-always : (old : DeskState) (names : List (List ℕ)) (F : List (List ℕ) → Type 0) → ((texts : List (List ℕ)) → F texts) → IfHeld old names F
held-always old [] F f = f []
held-always old (name ∷ names) F f = if-always (old.held name) (λ text. IfHeld old names (λ texts. F (text ∷ texts))) (λ text. held-always old names (λ texts. F (text ∷ texts)) (λ texts. f (text ∷ texts)))

if-both : {A : Type 0} (o : Option A) (F G H : A → Type 0) → IfSome o F → IfSome o G → ((x : A) → F x → G x → H x) → IfSome o H
if-both None F G H h k f = tt
if-both (Some x) F G H h k f = f x h k

pub held-both : (old : DeskState) (names : List (List ℕ)) (F G : List (List ℕ) → Type 0) → IfHeld old names F → IfHeld old names G → IfHeld old names (λ texts. F texts × G texts)
held-both old [] F G h k = (h, k)
held-both old (name ∷ names) F G h k =
    if-both (old.held name) (λ text. IfHeld old names (λ texts. F (text ∷ texts))) (λ text. IfHeld old names (λ texts. G (text ∷ texts))) (λ text. IfHeld old names (λ texts. F (text ∷ texts) × G (text ∷ texts))) h k
    (λ text x y. held-both old names (λ texts. F (text ∷ texts)) (λ texts. G (text ∷ texts)) x y)

-- names behind others
pub held-append : (old : DeskState) (names more : List (List ℕ)) (F : List (List ℕ) → Type 0) → IfHeld old names (λ texts. IfHeld old more (λ others. F (texts ++ others))) → IfHeld old (names ++ more) F
held-append old [] more F h = h
held-append old (name ∷ names) more F h = IfSome_then (old.held name) h (λ text k. held-append old names more (λ texts. F (text ∷ texts)) k)

-- what is so of these texts is so of the texts of the names, where they are these
pub told-same : (old : DeskState) (names texts : List (List ℕ)) (F : List (List ℕ) → Type 0) → IfHeld old names (λ contents. contents ≡ texts) → F texts → IfHeld old names F
told-same old names texts F h f = held-then old names (λ contents. contents ≡ texts) F h (λ contents e. subst F (sym e) f)

-- the texts of names and the text of one more
pub told-next : (old : DeskState) (names texts : List (List ℕ)) (name text : List ℕ) → IfHeld old names (λ contents. contents ≡ texts) → IfSome (old.held name) (λ content. text ≡ content)
    → IfHeld old (names ++ (name ∷ [])) (λ contents. contents ≡ texts ++ (text ∷ []))
told-next old names texts name text h k = held-append old names (name ∷ []) (λ contents. contents ≡ texts ++ (text ∷ []))
    (held-then old names (λ contents. contents ≡ texts) (λ contents. IfHeld old (name ∷ []) (λ others. contents ++ others ≡ texts ++ (text ∷ []))) h
    (λ contents e. IfSome_then (old.held name) k (λ content d. ap₂ (λ (xs : List (List ℕ)) (x : List ℕ). xs ++ (x ∷ [])) e (sym d))))
