-- Each name of a list once, where it stands first, and the names of the shows so far.
use Rattle.std.proofs.Common.{◌≡◌, refl, sym, ◌∙◌, ap, subst, Bool, true, false, cond, not, ◌||◌, List, [], ◌∷◌, ◌++◌, append-nil, ℕ, ◌<◌, ◌+◌, length, take, get_or, map}
use Rattle.std.proofs.lemmas.Bool.{cond-true, cond-false}
use Rattle.std.proofs.lemmas.List.{map-append, take_more}
use Rattle.std.proofs.lemmas.Slice.Eq.{bytes_eq-Decides}
use Rattle.std.specs.List.{list_any, filter}
use Rattle.std.specs.Str.{bytes_eq}
use Rattle.asp_base.specs.Literal.{all_hold}
use Rattle.asp_base.specs.Sets.{Set}
use Rattle.ground_program.specs.Stable.{first_ones, names_of}
use Rattle.ground_program.specs.declared.program.Show.{Show}
use Rattle.evaluation.specs.private.Names.{has, put_name}

-- the list without a name
abbrev without : List ℕ → List (List ℕ) → List (List ℕ)
without name names = filter (λ other. not (bytes_eq name other)) names

bytes_eq-sym : (x y : List ℕ) → bytes_eq x y ≡ bytes_eq y x
bytes_eq-sym x y = go (bytes_eq x y) refl (bytes_eq y x) refl
  where
    go : (a : Bool) → bytes_eq x y ≡ a → (b : Bool) → bytes_eq y x ≡ b → a ≡ b
    go true e true f = refl
    go false e false f = refl
    go true e false f = sym ((bytes_eq-Decides y x).1 (sym ((bytes_eq-Decides x y).0 e))) ∙ f
    go false e true f = sym (sym ((bytes_eq-Decides x y).1 (sym ((bytes_eq-Decides y x).0 f))) ∙ e)

-- a name that is not there stays outside
has-without : (l x : List ℕ) (names : List (List ℕ)) → bytes_eq x l ≡ false → has (without l names) x ≡ has names x
has-without l x [] other = refl
has-without l x (k ∷ names) other = go (bytes_eq l k) refl (has-without l x names other)
  where
    go : (b : Bool) → bytes_eq l k ≡ b → has (without l names) x ≡ has names x →
        has (cond (not b) (k ∷ without l names) (without l names)) x ≡ (bytes_eq x k || has names x)
    go false differ rest = ap (λ b. bytes_eq x k || b) rest
    go true same rest = rest ∙ ap (λ b. b || has names x) (sym (subst (λ z. bytes_eq x z ≡ false) ((bytes_eq-Decides l k).0 same) other))

without-append : (l x : List ℕ) (names : List (List ℕ)) → without l (names ++ (x ∷ [])) ≡ without l names ++ without l (x ∷ [])
without-append l x [] = refl
without-append l x (k ∷ names) = go (bytes_eq l k) (without-append l x names)
  where
    go : (b : Bool) → without l (names ++ (x ∷ [])) ≡ without l names ++ without l (x ∷ []) →
        cond (not b) (k ∷ without l (names ++ (x ∷ []))) (without l (names ++ (x ∷ []))) ≡ cond (not b) (k ∷ without l names) (without l names) ++ without l (x ∷ [])
    go false rest = ap (λ ks. k ∷ ks) rest
    go true rest = rest

-- one name more
first_ones-push : (names : List (List ℕ)) (x : List ℕ) → first_ones (names ++ (x ∷ [])) ≡ put_name (first_ones names) x
first_ones-push [] x = refl
first_ones-push (l ∷ names) x = ap (λ ks. l ∷ without l ks) (first_ones-push names x) ∙ go (bytes_eq x l) refl (has (first_ones names) x) refl
  where
    rest : (b : Bool) → bytes_eq x l ≡ b → without l (first_ones names ++ (x ∷ [])) ≡ without l (first_ones names) ++ cond (not b) (x ∷ []) []
    rest b e = without-append l x (first_ones names) ∙ ap (λ t. without l (first_ones names) ++ cond (not t) (x ∷ []) []) (bytes_eq-sym l x ∙ e)

    go : (b : Bool) → bytes_eq x l ≡ b → (h : Bool) → has (first_ones names) x ≡ h →
        l ∷ without l (cond h (first_ones names) (first_ones names ++ (x ∷ [])))
        ≡ cond (b || has (without l (first_ones names)) x) (l ∷ without l (first_ones names)) (l ∷ (without l (first_ones names) ++ (x ∷ [])))
    go true same true there = refl
    go true same false absent = ap (λ ks. l ∷ ks) (rest true same ∙ append-nil (without l (first_ones names)))
    go false differ true there = sym (cond-true (has (without l (first_ones names)) x) _ _ (has-without l x (first_ones names) differ ∙ there))
    go false differ false absent =
        ap (λ ks. l ∷ ks) (rest false differ) ∙ sym (cond-false (has (without l (first_ones names)) x) _ _ (has-without l x (first_ones names) differ ∙ absent))

-- the shows whose condition holds, one more
filter-push : (test : Show → Bool) (shows : List Show) (x : Show) → filter test (shows ++ (x ∷ [])) ≡ filter test shows ++ cond (test x) (x ∷ []) []
filter-push test [] x = refl
filter-push test (s ∷ shows) x = go (test s) (filter-push test shows x)
  where
    go : (b : Bool) → filter test (shows ++ (x ∷ [])) ≡ filter test shows ++ cond (test x) (x ∷ []) [] →
        cond b (s ∷ filter test (shows ++ (x ∷ []))) (filter test (shows ++ (x ∷ []))) ≡ cond b (s ∷ filter test shows) (filter test shows) ++ cond (test x) (x ∷ []) []
    go true rest = ap (λ ss. s ∷ ss) rest
    go false rest = rest

-- one show more
names_of-push : (shows : List Show) (x : Show) (A : Set) → names_of (shows ++ (x ∷ [])) A ≡ cond (all_hold x.condition A A) (put_name (names_of shows A) x.name) (names_of shows A)
names_of-push shows x A =
    ap (λ ss. first_ones (map (λ show. show.name) ss)) (filter-push (λ show. all_hold show.condition A A) shows x) ∙ go (all_hold x.condition A A)
  where
    held : List Show
    held = filter (λ show. all_hold show.condition A A) shows

    go : (b : Bool) → first_ones (map (λ show. show.name) (held ++ cond b (x ∷ []) [])) ≡ cond b (put_name (names_of shows A) x.name) (names_of shows A)
    go true = ap first_ones (map-append (λ (show : Show). show.name) held (x ∷ [])) ∙ first_ones-push (map (λ show. show.name) held) x.name
    go false = ap (λ ss. first_ones (map (λ show. show.name) ss)) (append-nil held)

-- the shows up to the next one
pub names_of-next : (shows : List Show) (i : ℕ) (x : Show) (A : Set) → i < length shows → x ≡ get_or shows i x
    → names_of (take (i + 1) shows) A ≡ cond (all_hold x.condition A A) (put_name (names_of (take i shows) A) x.name) (names_of (take i shows) A)
names_of-next shows i x A inside is =
    ap (λ (xs : List Show). names_of xs A) (take_more shows i x inside)
    ∙ ap (λ (y : Show). names_of (take i shows ++ (y ∷ [])) A) (sym is)
    ∙ names_of-push (take i shows) x A

-- a set of lent names
module _ {K : Type 0} (bytes : K → List ℕ) where
  keys-has : (keys : List K) (k : K) → list_any (λ key. bytes_eq (bytes k) (bytes key)) keys ≡ has (map bytes keys) (bytes k)
  keys-has [] k = refl
  keys-has (key ∷ keys) k = ap (λ b. bytes_eq (bytes k) (bytes key) || b) (keys-has keys k)

  pub keys-put : (keys : List K) (k : K) → map bytes (cond (list_any (λ key. bytes_eq (bytes k) (bytes key)) keys) keys (keys ++ (k ∷ []))) ≡ put_name (map bytes keys) (bytes k)
  keys-put keys k = go (list_any (λ key. bytes_eq (bytes k) (bytes key)) keys) ∙ ap (λ b. cond b (map bytes keys) (map bytes keys ++ (bytes k ∷ []))) (keys-has keys k)
    where
      go : (b : Bool) → map bytes (cond b keys (keys ++ (k ∷ []))) ≡ cond b (map bytes keys) (map bytes keys ++ (bytes k ∷ []))
      go true = refl
      go false = map-append bytes keys (k ∷ [])
