-- What is built, and the promise of the call. Assumes nothing.
use mathlib.Core.Path.{◌≡◌, refl, sym, ap, subst, ◌∙◌}
use mathlib.Core.List.{List}
use Prim.Native.Nat.{ℕ}
use lib.ListN.{length}
use Rattle.refusal.specs.Answer.{Answer, finished, Outcome, outcome}
use Rattle.refusal.specs.Number.{number_of, fault_at}
use Rattle.refusal.specs.declared.Refusal.{Refusal}
use Rattle.std.specs.Prelude.{Result, Ok, Err}
use Rattle.refusal.proofs.Faults.{sound_none, faulty_fault, unless_none, unless_fault, finished_none, refused_fault}
use Rattle.pool.specs.Points.{Points}
use Rattle.pool.specs.Tables.{Fields, pair_in, points_of_table}
use Rattle.pool.specs.Faultless.{SoundPoints}
use Rattle.pool.proofs.Points.{sound_heaviest}
use Rattle.donation.specs.Compatibility.{compatibility}
use Rattle.donation.specs.Weight.{weight}
use Rattle.graph.specs.Graph.{Graph, filled_graph}
use Rattle.weighing.specs.Building.{build_fault, building}
use Rattle.weighing.specs.Answers.{answer_of}
use Rattle.graph.specs.Preconditions.{Buildable}
use Rattle.weighing.specs.Promises.{FaultlessFields, Fit, Entries, DonorsSide, Plannable, BuildsRightly}
use Rattle.donation.proofs.Compatible.{compatibility-most, compatibility_same}
use Rattle.donation.proofs.Points.{weight_same, weight_least, weight-most, present_weighs, weight_alike, weight-counted}
use Rattle.graph.proofs.Rows.{rows_entry}
use Rattle.weighing.proofs.Faults.{build_none, build_passed, build_fault_lem, first_weighed, first_fault}

-- ## What is built, by points q

module _ (q : Points) (n : ℕ) (f : Fields) where
  pub filled-entries : (old : Graph) → Entries q n f (filled_graph q n (pair_in f) old)
  unfolding filled_graph
  filled-entries old = record { compatibilities = rows_entry n (compatibility (pair_in f)) _; weights = rows_entry n (weight q (pair_in f)) _ }

  entries_donors_side : (g : Graph) → Entries q n f g → DonorsSide q n f g
  entries_donors_side g e =
      let p = pair_in f in
      let W = e.weights in
      record {
        counted = λ count c i j l m h. W i j l m ∙ weight-counted q p i count c j h;
        alike = λ i j k l m o a b s t. W i j l m ∙ weight_alike q p i j k a b s t ∙ sym (W i k l o);
      }

  entries_plannable : SoundPoints q → (g : Graph) → Entries q n f g → Plannable q n g
  entries_plannable sound g e =
      let p = pair_in f in
      let M = e.compatibilities in
      let W = e.weights in
      record {
        zero_or_one = λ i j l m. rw (M i j l m) (compatibility-most p i j);
        own_compatibility = λ i l. M i i l l ∙ compatibility_same p i i refl;
        own_weight = λ i l. W i i l l ∙ weight_same q p i i refl;
        least = λ i j l m h. rw (W i j l m) (weight_least q p i j h);
        most = λ i j l m h. rw (W i j l m) (weight-most q p i j h);
        fits = sound_heaviest q sound;
        none_weightless = λ i j l m h. rw (W i j l m) (present_weighs q p i j sound (sym (M i j l m) ∙ h));
      }

-- ## The promise

module _ (v n : ℕ) (l : List ℕ) (f : Fields) (old : Graph) where
  abbrev weighed : Points
  weighed = points_of_table v l

  -- built, the tables are filled
  built_lent : (building v n l f old).answer ≡ finished tt → (building v n l f old).lent ≡ filled_graph weighed n (pair_in f) old
  unfolding building
  built_lent e = ap (λ (o : Outcome (Unit {0}) Graph). o.lent) (unless_none _ _ _ _ (finished_none _ _ _ _ e).0)

  building_unread : v ≡ 1 → (other : List ℕ) → building v n l f old ≡ building v n other f old
  unfolding building
  building_unread e other = rw (first_fault v n l other e f (length old.compatibilities) (length old.weights), first_weighed v n l other e)

  builds_rightly : BuildsRightly v n l f old (building v n l f old)
  unfolding building
  builds_rightly =
      let there : (building v n l f old).answer ≡ finished tt → Entries weighed n f (building v n l f old).lent =
      λ e. rw (built_lent e) (filled-entries weighed n f old) in
      let passed : (building v n l f old).answer ≡ finished tt → FaultlessFields v n l f × Fit n old =
      λ e. build_passed v n l f old (finished_none _ _ _ _ e).0 in
      record {
        accepts = λ w h. ap (λ (o : Outcome (Unit {0}) Graph). o.answer) (unless_none _ _ _ _ (build_none v n l f old w h));
        accepted = passed;
        refuses =
            λ k o e.
            let g = refused_fault _ _ _ _ e in
            let d = build_fault_lem v n l f old k o g in
            (d.0, d.1, ap (λ (x : Outcome (Unit {0}) Graph). x.lent) (unless_fault _ _ _ _ k o g));
        built = there;
        donors_side = λ e. entries_donors_side weighed n f _ (there e);
        plannable = λ e. entries_plannable weighed n f (passed e).0.points _ (there e);
        unread = building_unread;
      }

  -- an answer and tables that are building's have its promise
  pub rightly : (a : Answer (Unit {0})) (new : Graph) → outcome a new ≡ building v n l f old → BuildsRightly v n l f old (outcome a new)
  rightly a new e = subst (λ (o : Outcome (Unit {0}) Graph). BuildsRightly v n l f old o) (sym e) builds_rightly

-- ## What filling asks of the fields, and what it gives

module _ (v n : ℕ) (l : List ℕ) (f : Fields) (old : Graph) (q : Points) (r : q ≡ points_of_table v l) where
  pub buildable : FaultlessFields v n l f → Fit n old → Buildable q n f old
  unfolding pair_in
  buildable w fit =
      record {
        few = w.few;
        for_m =
            record {
              in_donor_blood = w.hold.donor_blood;
              in_patient_blood = w.hold.patient_blood;
              in_donor_antigens = w.hold.donor_antigens;
              in_patient_antibodies = w.hold.patient_antibodies;
              donor_group = λ i l. (w.in_range i l).donor_blood;
              patient_group = λ j l. (w.in_range j l).patient_blood;
            };
        for_w =
            record {
              in_donor_age = w.hold.donor_age;
              in_patient_age = w.hold.patient_age;
              in_donor_antigens = w.hold.donor_antigens;
              in_patient_antigens = w.hold.patient_antigens;
            };
        in_compatibilities = fit.compatibilities;
        in_weights = fit.weights;
        points = subst SoundPoints (sym r) w.points;
      }

  pub filled_whole : (new : Graph) → new ≡ filled_graph q n (pair_in f) old → new ≡ filled_graph (points_of_table v l) n (pair_in f) old
  filled_whole new g = g ∙ ap (λ (p : Points). filled_graph p n (pair_in f) old) r

-- ## The call, by what `judge` found

module _ (v n : ℕ) (l : List ℕ) (f : Fields) (old : Graph) (found : Result Unit Refusal)
    (e : fault_at 0 found ≡ build_fault v n l f (length old.compatibilities) (length old.weights)) where
  pub call_refused : (why : Refusal) → found ≡ Err why → outcome (answer_of (Err why)) old ≡ building v n l f old
  unfolding building answer_of
  call_refused why h = sym (unless_fault _ tt (filled_graph (points_of_table v l) n (pair_in f) old) old (number_of why) 0 (faulty_fault 0 found e why h))

  -- q is what the pool is weighed by
  module _ (h : found ≡ (Ok tt)) (q : Points) (r : q ≡ points_of_table v l) where
    pub call_buildable : Buildable q n f old
    call_buildable =
        let passed = build_passed v n l f old (sound_none 0 found e h) in
        buildable v n l f old q r passed.0 passed.1

    pub call_built : (new : Graph) → new ≡ filled_graph q n (pair_in f) old → outcome (answer_of (Ok tt)) new ≡ building v n l f old
    unfolding building answer_of
    call_built new g =
        ap (outcome (finished tt)) (filled_whole v n l f old q r new g)
        ∙ sym (unless_none _ tt (filled_graph (points_of_table v l) n (pair_in f) old) old (sound_none 0 found e h))
