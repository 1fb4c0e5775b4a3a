-- What registering answers and leaves, by what was found. Assumes nothing.
use mathlib.Core.Path.{◌≡◌, sym, ap, ◌∙◌}
use mathlib.Core.List.{List}
use Prim.Native.Nat.{ℕ, ◌+◌}
use native.Mathlib.Omega.{arith}
use lib.ListN.{length, set}
use Rattle.laws.proofs.Lent.{stored_one}
use Rattle.refusal.specs.Fault.{◌then◌}
use Rattle.refusal.specs.Answer.{outcome}
use Rattle.refusal.specs.Number.{number_of, fault_at}
use Rattle.refusal.specs.declared.Refusal.{Refusal}
use Rattle.std.specs.Prelude.{Result, Ok, Err}
use Rattle.refusal.proofs.Faults.{sound_none, faulty_fault, unless_none, unless_fault}
use Rattle.pool.specs.Pool.{Pair}
use Rattle.pool.specs.Points.{Points}
use Rattle.pool.specs.Tables.{Fields, fields, pair_in}
use Rattle.pool.specs.Faultless.{FieldsHold}
use Rattle.graph.specs.Graph.{Graph, filled_graph}
use Rattle.graph.specs.Preconditions.{Buildable}
use Rattle.weighing.proofs.Promised.{buildable, filled_whole}
use Rattle.live.specs.Live.{Live, live, live_version, weighed_by, pair_of, pair_room}
use Rattle.live.specs.Suitable.{with_numbers}
use Rattle.live.specs.Faults.{stored_fault, range_fault, like_fault, more_fault, register_fault}
use Rattle.live.specs.Calls.{with_pair, registered, registering}
use Rattle.live.specs.Answers.{answer_of}
use Rattle.live.specs.Faultless.{Registrable}
use Rattle.live.proofs.CallFaults.{register_passed}
use Rattle.live.proofs.Promised.{new_faultless}
use Rattle.suiting.specs.Preconditions.{Countable}

-- ## The numbers are counted in an M as long as it was

pub add_countable : (p : Pair) (l : Live) → Registrable p l → (m : List ℕ) → length m ≡ length l.graph.compatibilities
    → Countable (l.count + 1) m l.suitable
add_countable p l w m e =
    record { few = omega (arith, w.room); rows = rw e w.more.graph.compatibilities; numbers = w.more.suitable }

-- ## A pair's fields are stored, each at this place of its table

pub put_stored : (at : ℕ) (p : Pair) (f : Fields) → FieldsHold (at + 1) f
    → fields (set f.ids at p.id) (set f.donor_blood at p.donor_blood) (set f.patient_blood at p.patient_blood) (set f.donor_age at p.donor_age) (set f.patient_age at p.patient_age)
    (set f.donor_antigens at p.donor_antigens) (set f.patient_antigens at p.patient_antigens) (set f.patient_antibodies at p.patient_antibodies) ≡ with_pair at p f
unfolding with_pair
put_stored at p f h k =
    record {
      ids = stored_one at p.id f.ids (omega (arith, h.ids)) k;
      donor_blood = stored_one at p.donor_blood f.donor_blood (omega (arith, h.donor_blood)) k;
      patient_blood = stored_one at p.patient_blood f.patient_blood (omega (arith, h.patient_blood)) k;
      donor_age = stored_one at p.donor_age f.donor_age (omega (arith, h.donor_age)) k;
      patient_age = stored_one at p.patient_age f.patient_age (omega (arith, h.patient_age)) k;
      donor_antigens = stored_one at p.donor_antigens f.donor_antigens (omega (arith, h.donor_antigens)) k;
      patient_antigens = stored_one at p.patient_antigens f.patient_antigens (omega (arith, h.patient_antigens)) k;
      patient_antibodies = stored_one at p.patient_antibodies f.patient_antibodies (omega (arith, h.patient_antibodies)) k;
    }

-- ## A pair that is added: f is what is left of the fields, q what the pool is weighed by

module _ (p : Pair) (l : Live) (f : Fields) (stored : f ≡ with_pair l.count p l.fields) (q : Points) (r : q ≡ weighed_by l) where
  pub add_buildable : Registrable p l → Buildable q (l.count + 1) f l.graph
  add_buildable w =
      rw stored
      (buildable live_version (l.count + 1) l.points (with_pair l.count p l.fields) l.graph q r (new_faultless p l w) w.more.graph)

  pub is_added : (g : Graph) → g ≡ filled_graph q (l.count + 1) (pair_in f) l.graph → (s : List ℕ)
      → s ≡ with_numbers (l.count + 1) g.compatibilities l.suitable → live (l.count + 1) l.points f g s ≡ registered p l
  unfolding registered
  is_added g k s h =
      let built : g ≡ filled_graph (weighed_by l) (l.count + 1) (pair_in (with_pair l.count p l.fields)) l.graph =
      filled_whole live_version (l.count + 1) l.points f l.graph q r g k
      ∙ ap (λ (x : Fields). filled_graph (weighed_by l) (l.count + 1) (pair_in x) l.graph) stored in
      let numbers = h ∙ ap (λ (x : Graph). with_numbers (l.count + 1) x.compatibilities l.suitable) built in
      λ i. live (l.count + 1) l.points (stored i) (built i) (numbers i)

-- ## The call, by what `judge` found in tables of which the shortest has `space` entries

module _ (p : Pair) (l : Live) (space : ℕ) (s : space ≡ pair_room l) (found : Result Unit Refusal)
    (e : fault_at 0 found
    ≡ (stored_fault l.count space l.graph.compatibilities (length l.graph.weights) l.points l.suitable
    then range_fault l.count (pair_of l) p
    then like_fault l.count (pair_of l) p
    then more_fault l.count space (length l.graph.compatibilities) (length l.graph.weights))) where
  whole : fault_at 0 found ≡ register_fault p l
  unfolding register_fault
  whole = rw (← s) e

  pub call_refused : (why : Refusal) → found ≡ Err why → outcome (answer_of (Err why)) l ≡ registering p l
  unfolding registering answer_of
  call_refused why h = sym (unless_fault _ tt (registered p l) l (number_of why) 0 (faulty_fault 0 found whole why h))

  module _ (h : found ≡ (Ok tt)) where
    pub call_registrable : Registrable p l
    call_registrable = register_passed p l (sound_none 0 found whole h)

    pub call_registered : (new : Live) → new ≡ registered p l → outcome (answer_of (Ok tt)) new ≡ registering p l
    unfolding registering answer_of
    call_registered new k = ap (outcome (answer_of (Ok tt))) k ∙ sym (unless_none _ tt (registered p l) l (sound_none 0 found whole h))
