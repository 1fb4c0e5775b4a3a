-- What `withdraw` answers and leaves, by what was found. Assumes nothing.
use mathlib.Core.Path.{◌≡◌, sym, ap, ◌∙◌}
use mathlib.Core.Bool.{true, not}
use mathlib.Core.List.{List}
use Prim.Native.Nat.{ℕ, ◌-◌}
use lib.ListN.{length}
use Rattle.laws.specs.Below.{any_below}
use Rattle.refusal.specs.Answer.{finished, outcome}
use Rattle.refusal.specs.Number.{number_of, fault_at}
use Rattle.refusal.specs.declared.Refusal.{Refusal}
use Rattle.refusal.specs.declared.Refusal.TheVariants.{UnknownId}
use Rattle.std.specs.Prelude.{Result, Ok, Err}
use Rattle.refusal.proofs.Faults.{none_then, fault_then, none_refuse, fault_refuse, sound_none, faulty_fault, unless_none, unless_fault}
use Rattle.pool.specs.Tables.{Fields, item_in, pair_in}
use Rattle.graph.specs.Graph.{Graph, graph}
use Rattle.live.specs.Live.{Live, live, pair_room}
use Rattle.live.specs.Suitable.{with_numbers}
use Rattle.live.specs.Faults.{stored_fault, kept_fault, withdraw_fault}
use Rattle.live.specs.Faultless.{Kept}
use Rattle.live.specs.Calls.{place_of, without_pair, without_row, without_at, withdrawing}
use Rattle.live.specs.Answers.{answer_of}
use Rattle.live.proofs.Faults.{kept_passed}
use Rattle.live.proofs.Tables.{place_found}
use Rattle.live.proofs.Suitable.{true_number}
use Rattle.withdrawing.specs.Preconditions.{OneOf}
use Rattle.withdrawing.proofs.Places.{same, place_there, none_there}

-- what `judge` found, of tables of which the shortest has so many entries
pub found-stored : (l : Live) (space : ℕ) (judged : Result Unit Refusal) → space ≡ pair_room l
    → fault_at 0 judged ≡ stored_fault l.count space l.graph.compatibilities (length l.graph.weights) l.points l.suitable
    → fault_at 0 judged ≡ kept_fault l
found-stored l space judged r e = rw r at e

module _ (x : ℕ) (l : Live) (found : Result Unit Refusal) (e : fault_at 0 found ≡ kept_fault l) where
  pub call_refused : (why : Refusal) → found ≡ Err why → outcome (answer_of (Err why)) l ≡ withdrawing x l
  unfolding withdrawing withdraw_fault answer_of
  call_refused why h = sym (unless_fault _ tt _ l (number_of why) 0 (fault_then _ _ (faulty_fault 0 found e why h)))

  module _ (h : found ≡ (Ok tt)) where
    pub call_kept : Kept l
    call_kept = kept_passed l (sound_none 0 found e h)

    -- what `place_of` found
    module _ (a : ℕ) (p : a ≡ place_of l.count (item_in l.fields.ids) x) where
      pub call_unknown : a ≡ l.count → outcome (answer_of (Err UnknownId)) l ≡ withdrawing x l
      unfolding withdrawing withdraw_fault answer_of pair_in
      call_unknown q =
          sym
          (unless_fault _ tt _ l 16 0
          (none_then _ _ (sound_none 0 found e h) ∙ fault_refuse 16 0 _ (ap not (none_there l.count (item_in l.fields.ids) x (sym p ∙ q)))))

      module _ (q : a ≡ l.count → ⊥) where
        there : any_below l.count (same (item_in l.fields.ids) x) ≡ true
        there = place_there _ _ _ (λ r. q (p ∙ r))

        pub call_one : OneOf a l.count l.fields l.graph l.suitable
        call_one =
            record {
              numbers =
                  record {
                    tables = record { few = call_kept.few; rows = call_kept.keep.graph.compatibilities; numbers = call_kept.keep.suitable };
                    inside = rw p (place_found _ _ _ there).below;
                    numbered = λ j k. true_number l.count l.graph.compatibilities j _ (call_kept.numbers j k);
                  };
              fields = call_kept.keep.fields;
              weights = call_kept.keep.graph.weights;
            }

        pub call_withdrawn : (f : Fields) (g : Graph) (s : List ℕ) → f ≡ without_pair a l.count l.fields
            → g ≡ graph (without_row a l.count l.graph.compatibilities) (without_row a l.count l.graph.weights)
            → s ≡ with_numbers (l.count - 1) (without_row a l.count l.graph.compatibilities) l.suitable
            → outcome (answer_of (Ok tt)) (live (l.count - 1) l.points f g s) ≡ withdrawing x l
        unfolding withdrawing withdraw_fault without_at answer_of pair_in
        call_withdrawn f g s b d n =
            (λ i. outcome (finished tt) (live (l.count - 1) l.points (b i) (d i) (n i)))
            ∙ ap (λ (k : ℕ). outcome (finished tt) (without_at k l)) p
            ∙ sym (unless_none _ tt _ l (none_then _ _ (sound_none 0 found e h) ∙ none_refuse 16 0 _ (ap not there)))
