-- The map of the lines that were read so far, in front of the entries that are still to come.
use Rattle.std.proofs.Common.{◌≡◌, refl, sym, ◌∙◌, ap, subst, ℕ, ◌^◌, ◌<◌, ◌≤◌, ℤ, pos, ◌<ℤ◌, ◌≤ℤ◌, true, List, [], ◌∷◌, ◌++◌, append_assoc, append-nil, Option, Some, Result, Ok, Err, arith}
use Rattle.std.specs.Prelude.{IfSome, ⊤}
use Rattle.std.proofs.lemmas.Bool.{ltb-true, true≢false}
use Rattle.std.proofs.lemmas.Int.{ints}
use Rattle.asp_base.specs.Literal.{atom_of}
use Rattle.asp_scan.specs.Scanning.{Scanning}
use Rattle.ground_program.specs.Facts.{IsAtom, IsShort, IsPriority, FallsFrom, LevelFits, ShowFits}
use Rattle.ground_program.specs.declared.program.Level.{Level}
use Rattle.ground_program.specs.declared.program.Show.{Show}
use Rattle.asp_scan.specs.Feeds.{HaveNoFeed}
use Rattle.asp_base.proofs.Each.{each-push}
use Rattle.asp_base.proofs.IntegerTests.{lt-from_test}
use Rattle.symbol_map.specs.declared.entry.Entry.{Entry}
use Rattle.symbol_map.specs.declared.entry.Entry.TheVariants.{Atom, Shown, Leveled}
use Rattle.symbol_map.specs.declared.entry.Stage.{Stage}
use Rattle.symbol_map.specs.declared.entry.Stage.TheVariants.{Atoms, Shows, Levels}
use Rattle.asp_base.specs.declared.faults.Refusal.{Refusal}
use Rattle.asp_base.specs.declared.faults.Refusal.TheVariants as refusals
use Rattle.symbol_map.specs.declared.map.Form.{Form}
use Rattle.symbol_map.specs.declared.map.Place.{Place}
use Rattle.symbol_map.specs.private.EntryFacts.{EntryFits, put}
use Rattle.symbol_map.specs.IsMap.{IsMap, IsVariable, PlacesRise}
use Rattle.asp_base.specs.Faults.{Fault, Refuses}
use Rattle.symbol_map.specs.declared.kind.MapKind.{MapKind}
use Rattle.symbol_map.specs.Read.{is_next, stage_of, before, entries, empty_map}
use Rattle.symbol_map.specs.Symbols.{Symbols}

-- ---- how far the lines have come

-- the entries of one map in front of those that are still to come
abbrev pub onto : Symbols → Result Symbols (Fault MapKind) → Result Symbols (Fault MapKind)
onto front (Ok m) = Ok (record m { atoms = front.atoms ++ m.atoms; shows = front.shows ++ m.shows; levels = front.levels ++ m.levels })
onto front (Err f) = Err f

-- no atom is above this one
abbrev pub AtomsUpTo : ℕ → List Place → Type 0
AtomsUpTo high [] = ⊤
AtomsUpTo high (place ∷ places) = (place.atom ≤ high) × AtomsUpTo high places

-- no priority is below this one
abbrev pub LevelsDownTo : ℤ → List Level → Type 0
LevelsDownTo low [] = ⊤
LevelsDownTo low (level ∷ levels) = (low ≤ℤ level.priority) × LevelsDownTo low levels

-- a map is as far as the stage says
abbrev pub Reached : Stage → Symbols → Type 0
Reached (Atoms a) m = AtomsUpTo a m.atoms × (m.levels ≡ [])
Reached Shows m = m.levels ≡ []
Reached (Levels p) m = LevelsDownTo p m.levels

-- ---- lists that grow behind

rise-push : (low high : ℕ) (places : List Place) (place : Place) → PlacesRise low places → AtomsUpTo high places → high < place.atom → low < place.atom → PlacesRise low (places ++ (place ∷ []))
rise-push low high [] place rise up h l = (l, tt)
rise-push low high (p ∷ places) place rise up h l = (rise.0, rise-push p.atom high places place rise.1 up.1 h (let k : p.atom ≤ high = up.0 in omega arith))

up-push : (high : ℕ) (places : List Place) (place : Place) → AtomsUpTo high places → high < place.atom → AtomsUpTo place.atom (places ++ (place ∷ []))
up-push high [] place up h = (omega arith, tt)
up-push high (p ∷ places) place up h = (let k : p.atom ≤ high = up.0 in omega arith, up-push high places place up.1 h)

fall-push : (high low : ℤ) (levels : List Level) (level : Level) → FallsFrom high levels → LevelsDownTo low levels → level.priority <ℤ low → level.priority <ℤ high → FallsFrom high (levels ++ (level ∷ []))
fall-push high low [] level fall down h l = (l, tt)
fall-push high low (x ∷ levels) level fall down h l = (fall.0, fall-push x.priority low levels level fall.1 down.1 h (omega (arith, ints, h, down.0)))

down-push : (low : ℤ) (levels : List Level) (level : Level) → LevelsDownTo low levels → level.priority <ℤ low → LevelsDownTo level.priority (levels ++ (level ∷ []))
down-push low [] level down h = (omega (arith, ints), tt)
down-push low (x ∷ levels) level down h = (omega (arith, ints, h, down.0), down-push low levels level down.1 h)

-- ---- a map that grows by an entry

-- what holds at a stage
pub record Grows (vars : ℕ) (stage : Stage) (m : Symbols) : Type 0 where
  pub is_map : IsMap m
  pub same : m.vars ≡ vars
  pub reached : Reached stage m

one-level : (levels : List Level) (level : Level) → levels ≡ [] → level.priority <ℤ pos (2 ^ 31) → FallsFrom (pos (2 ^ 31)) (levels ++ (level ∷ []))
one-level levels level none h = subst (λ ls. FallsFrom (pos (2 ^ 31)) (ls ++ (level ∷ []))) (sym none) (h, tt)

first-level : (levels : List Level) (level : Level) → levels ≡ [] → LevelsDownTo level.priority (levels ++ (level ∷ []))
first-level levels level none = subst (λ ls. LevelsDownTo level.priority (ls ++ (level ∷ []))) (sym none) (omega (arith, ints), tt)

grows-place : (vars : ℕ) (stage : Stage) (m : Symbols) (place : Place) → Grows vars stage m → EntryFits vars (Atom place) → is_next stage (Atom place) ≡ true → Grows vars (Atoms place.atom) (put (Atom place) m)
grows-place vars (Atoms a) m place g fits next =
    let rises : a < place.atom = ltb-true a place.atom next in
    let some : 0 < place.atom = fits.0.0 in
    record {
      is_map = record {
        vars = g.is_map.vars;
        atoms_rise = rise-push 0 a m.atoms place g.is_map.atoms_rise g.reached.0 rises some;
        atoms = each-push (λ x. IsAtom x.atom × IsVariable m.vars (atom_of x.lit)) m.atoms place g.is_map.atoms (fits.0, subst (λ n. IsVariable n (atom_of place.lit)) (sym g.same) fits.1);
        shows = g.is_map.shows;
        levels = g.is_map.levels;
        priorities = g.is_map.priorities;
        priorities_fit = g.is_map.priorities_fit;
      };
      same = g.same;
      reached = (up-push a m.atoms place g.reached.0 rises, g.reached.1);
    }
grows-place vars Shows m place g fits next = absurd (true≢false (sym next))
grows-place vars (Levels p) m place g fits next = absurd (true≢false (sym next))

grows-show : (vars : ℕ) (stage : Stage) (m : Symbols) (show : Show) → Grows vars stage m → EntryFits vars (Shown show) → is_next stage (Shown show) ≡ true → Grows vars Shows (put (Shown show) m)
grows-show vars stage m show g fits next = record {
  is_map = record {
    vars = g.is_map.vars;
    atoms_rise = g.is_map.atoms_rise;
    atoms = g.is_map.atoms;
    shows = each-push (ShowFits (IsVariable m.vars)) m.shows show g.is_map.shows (subst (λ n. ShowFits (IsVariable n) show) (sym g.same) fits);
    levels = g.is_map.levels;
    priorities = g.is_map.priorities;
    priorities_fit = g.is_map.priorities_fit;
  };
  same = g.same;
  reached = by stage g.reached next;
}
  where
    by : (stage : Stage) → Reached stage m → is_next stage (Shown show) ≡ true → m.levels ≡ []
    by (Atoms a) reached next = reached.1
    by Shows reached next = reached
    by (Levels p) reached next = absurd (true≢false (sym next))

-- how priorities fall, and where they come to
grows-priorities : (stage : Stage) (m : Symbols) (level : Level) → Reached stage m → is_next stage (Leveled level) ≡ true → FallsFrom (pos (2 ^ 31)) m.levels → level.priority <ℤ pos (2 ^ 31)
    → FallsFrom (pos (2 ^ 31)) (m.levels ++ (level ∷ [])) × LevelsDownTo level.priority (m.levels ++ (level ∷ []))
grows-priorities (Atoms a) m level reached next falls high = (one-level m.levels level reached.1 high, first-level m.levels level reached.1)
grows-priorities Shows m level reached next falls high = (one-level m.levels level reached high, first-level m.levels level reached)
grows-priorities (Levels p) m level reached next falls high =
    let lower : level.priority <ℤ p = lt-from_test level.priority p next in
    (fall-push (pos (2 ^ 31)) p m.levels level falls reached lower high, down-push p m.levels level reached lower)

grows-level : (vars : ℕ) (stage : Stage) (m : Symbols) (level : Level) → Grows vars stage m → EntryFits vars (Leveled level) → is_next stage (Leveled level) ≡ true → Grows vars (Levels level.priority) (put (Leveled level) m)
grows-level vars stage m level g fits next =
    let falls : FallsFrom (pos (2 ^ 31)) (m.levels ++ (level ∷ [])) × LevelsDownTo level.priority (m.levels ++ (level ∷ [])) = grows-priorities stage m level g.reached next g.is_map.priorities fits.0.1 in
    record {
      is_map = record {
        vars = g.is_map.vars;
        atoms_rise = g.is_map.atoms_rise;
        atoms = g.is_map.atoms;
        shows = g.is_map.shows;
        levels = each-push (λ x. IsShort x.items × LevelFits (IsVariable m.vars) x) m.levels level g.is_map.levels (subst (λ n. IsShort level.items × LevelFits (IsVariable n) level) (sym g.same) fits.1);
        priorities = falls.0;
        priorities_fit = each-push (λ x. IsPriority x.priority) m.levels level g.is_map.priorities_fit fits.0;
      };
      same = g.same;
      reached = falls.1;
    }

grows : (vars : ℕ) (stage : Stage) (m : Symbols) (e : Entry) → Grows vars stage m → EntryFits vars e → is_next stage e ≡ true → Grows vars (stage_of e) (put e m)
grows vars stage m (Atom place) g fits next = grows-place vars stage m place g fits next
grows vars stage m (Shown show) g fits next = grows-show vars stage m show g fits next
grows vars stage m (Leveled level) g fits next = grows-level vars stage m level g fits next

-- an entry moves from the map that comes to the one that is there
onto-put : (m : Symbols) (e : Entry) (read : Result Symbols (Fault MapKind)) → onto m (before e read) ≡ onto (put e m) read
onto-put m (Atom place) (Ok n) = ap (λ (xs : List Place). Ok (record n { atoms = xs; shows = m.shows ++ n.shows; levels = m.levels ++ n.levels })) (sym (append_assoc m.atoms (place ∷ []) n.atoms))
onto-put m (Shown show) (Ok n) = ap (λ (xs : List Show). Ok (record n { atoms = m.atoms ++ n.atoms; shows = xs; levels = m.levels ++ n.levels })) (sym (append_assoc m.shows (show ∷ []) n.shows))
onto-put m (Leveled level) (Ok n) = ap (λ (xs : List Level). Ok (record n { atoms = m.atoms ++ n.atoms; shows = m.shows ++ n.shows; levels = xs })) (sym (append_assoc m.levels (level ∷ []) n.levels))
onto-put m (Atom place) (Err f) = refl
onto-put m (Shown show) (Err f) = refl
onto-put m (Leveled level) (Err f) = refl

-- nothing comes any more
onto-empty : (m : Symbols) → onto m (Ok (empty_map m.form m.vars)) ≡ Ok m
onto-empty m = ap Ok (λ i. record { form = m.form; vars = m.vars; atoms = append-nil m.atoms i; shows = append-nil m.shows i; levels = append-nil m.levels i })

onto-nothing : (f : Form) (vars : ℕ) (read : Result Symbols (Fault MapKind)) → onto (empty_map f vars) read ≡ read
onto-nothing f vars (Ok m) = refl
onto-nothing f vars (Err e) = refl

put-form : (e : Entry) (m : Symbols) → (put e m).form ≡ m.form
put-form (Atom place) m = refl
put-form (Shown show) m = refl
put-form (Leveled level) m = refl

-- ---- the loop

-- what a loop keeps that reads the lines behind a header
pub record LinesSoFar (f : Form) (vars : ℕ) (start now : Scanning) (stage : Stage) (m : Symbols) : Type 0 where
  pub same : onto m (entries now.last (empty_map f vars) stage now.ahead) ≡ entries start.last (empty_map f vars) (Atoms 0) start.ahead
  pub last : now.last ≡ start.last
  pub no_feed : HaveNoFeed now.ahead
  pub form : m.form ≡ f
  pub grows : Grows vars stage m

pub LinesSoFar-start : (f : Form) (vars : ℕ) (start : Scanning) (m : Symbols) → vars < 2 ^ 31 → HaveNoFeed start.ahead → m ≡ empty_map f vars → LinesSoFar f vars start start (Atoms 0) m
LinesSoFar-start f vars start m small no_feed is = subst (λ x. LinesSoFar f vars start start (Atoms 0) x) (sym is) (record {
  same = onto-nothing f vars (entries start.last (empty_map f vars) (Atoms 0) start.ahead);
  last = refl;
  no_feed = no_feed;
  form = refl;
  grows = record { is_map = record { vars = omega arith; atoms_rise = tt; atoms = tt; shows = tt; levels = tt; priorities = tt; priorities_fit = tt }; same = refl; reached = (tt, refl) };
})

module _ {f : Form} {vars : ℕ} {start now : Scanning} {stage : Stage} {m : Symbols} (h : LinesSoFar f vars start now stage m) where
  more : (after : Scanning) (e : Entry) → ((empty : Symbols) → empty.vars ≡ vars → entries now.last empty stage now.ahead ≡ before e (entries now.last empty (stage_of e) after.ahead))
      → EntryFits vars e → is_next stage e ≡ true → after.last ≡ now.last → HaveNoFeed after.ahead → LinesSoFar f vars start after (stage_of e) (put e m)
  more after e step fits follows last no_feed =
      let empty : Symbols = empty_map f vars in
      record {
        same = ap (λ n. onto (put e m) (entries n empty (stage_of e) after.ahead)) last
            ∙ (sym (onto-put m e (entries now.last empty (stage_of e) after.ahead)) ∙ (ap (onto m) (sym (step empty refl)) ∙ h.same));
        last = last ∙ h.last;
        no_feed = no_feed;
        form = put-form e m ∙ h.form;
        grows = grows vars stage m e h.grows fits follows;
      }

  -- an entry was read
  pub LinesSoFar-next : (after : Scanning) (found : Option Entry) (e : Entry) (next : Stage) (longer : Symbols) → found ≡ Some e
      → IfSome found (λ x. (empty : Symbols) → empty.vars ≡ vars → entries now.last empty stage now.ahead ≡ before x (entries now.last empty (stage_of x) after.ahead))
      → IfSome found (λ x. EntryFits vars x) → IfSome found (λ x. is_next stage x ≡ true) → after.last ≡ now.last → HaveNoFeed after.ahead → next ≡ stage_of e → longer ≡ put e m
      → LinesSoFar f vars start after next longer
  LinesSoFar-next after found e next longer is step fits follows last no_feed stage_is longer_is =
      let here : LinesSoFar f vars start after (stage_of e) (put e m) = more after e
      (subst (λ o. IfSome o (λ x. (empty : Symbols) → empty.vars ≡ vars → entries now.last empty stage now.ahead ≡ before x (entries now.last empty (stage_of x) after.ahead))) is step)
      (subst (λ o. IfSome o (λ x. EntryFits vars x)) is fits) (subst (λ o. IfSome o (λ x. is_next stage x ≡ true)) is follows) last no_feed in
      subst (λ s. LinesSoFar f vars start after s longer) (sym stage_is) (subst (λ x. LinesSoFar f vars start after (stage_of e) x) (sym longer_is) here)

  pub LinesSoFar-fails : (refusal : Refusal MapKind) → Refuses (entries now.last (empty_map f vars) stage now.ahead) refusal → Refuses (entries start.last (empty_map f vars) (Atoms 0) start.ahead) refusal
  LinesSoFar-fails (refusals.At line kind) refuses = sym h.same ∙ ap (onto m) refuses
  LinesSoFar-fails refusals.Memory refuses = tt

  pub LinesSoFar-done : ((empty : Symbols) → empty.vars ≡ vars → entries now.last empty stage now.ahead ≡ Ok empty) → entries start.last (empty_map f vars) (Atoms 0) start.ahead ≡ Ok m
  LinesSoFar-done end =
      let empty : empty_map f vars ≡ empty_map m.form m.vars = λ i. record { form = sym h.form i; vars = sym h.grows.same i; atoms = []; shows = []; levels = [] } in
      sym h.same ∙ (ap (onto m) (end (empty_map f vars) refl ∙ ap Ok empty) ∙ onto-empty m)

  pub LinesSoFar-map : IsMap m
  LinesSoFar-map = h.grows.is_map
