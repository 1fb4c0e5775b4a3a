-- k1 to k12, floors, weightless edges, and pools in which W-208's bound is tight, computed. Assumes nothing.
use mathlib.Core.Path.{◌≡◌, refl}
use mathlib.Core.List.{[], ◌∷◌, flat_map}
use mathlib.Core.Bool.{false}
use Prim.Native.Nat.{ℕ, ◌<◌}
use native.Mathlib.Omega.{arith}
use lib.Dec.{eqb}
use Rattle.laws.specs.Below.{table, either, any_below, count_below, one}
use Rattle.laws.specs.Lent.{filled}
use Rattle.refusal.specs.Fault.{refuse, ◌then◌}
use Rattle.refusal.specs.Answer.{unless}
use Rattle.pool.specs.Faults.{shuffle_fault, room_fault}
use Rattle.greedy.specs.Places.{among, meets}
use Rattle.greedy.specs.Tally.{raise, next_round}
use Rattle.greedy.specs.Floorless as Before
use Rattle.greedy.specs.Rounds.{join, by_halves, choosing, clear, clearing_tally, rounds}
use Rattle.exchange.specs.Subsets.{ascending, subsets, each_first, orders, cycles, along, edges, entry, product_of, sum_of, weigh, first_of, heaviest, pairs_at, best_cycle, subset_weight, evaluation_tally}
use Rattle.exchange.specs.Input.{input_of}
use Rattle.exchange.specs.Resolution.{resolved, record_of, pairs_of, recipient_by, donor_by, recipient_table, donor_table, total}
use Rattle.exchange.specs.Planning.{table_fault, edge_fault, short_to_read, short_to_fill, plan_fault, left_by, planned_by, plan_from, filled_lent, planning}
use Rattle.exchange.specs.Floors as Floorless
use Rattle.exchange.specs.Pools.{read, table_of, blank, found_in, found, k5, bounds_by, bounds_of, k8, k8rival, four, four_rival, seven, seven_rival, ten, ten_rival, square}
use Rattle.exchange.specs.Pools.{PoolsComeOut, FloorsComeOut, FirstFaultTold, FourBeforeThirteen, PastUnchanged, WeightlessAnswered, EntryPastUnread, K5Before, WeightlessComeOut, CreditsComeOut}
use Rattle.exchange.specs.Rivals.{planned, Exchange, ExchangeSet, ExchangeSetOf}
use Rattle.exchange.specs.Credit.{credited}

computed : PoolsComeOut × FloorsComeOut × FirstFaultTold × FourBeforeThirteen × PastUnchanged × (bounds_of (k8 0) ≡ 18 ∷ 18 ∷ []) × (bounds_of (k8 5) ≡ 18 ∷ 18 ∷ [])
    × (bounds_of (k8 6) ≡ 0 ∷ 0 ∷ []) × (bounds_of four ≡ 20 ∷ 30 ∷ []) × (bounds_of seven ≡ 36 ∷ 36 ∷ []) × (bounds_of ten ≡ 52 ∷ 60 ∷ []) × (bounds_of square ≡ 0 ∷ 0 ∷ [])
    × WeightlessAnswered × EntryPastUnread × K5Before
unfolding flat_map table either any_below count_below one filled refuse ◌then◌ unless shuffle_fault room_fault among meets raise next_round join
    by_halves choosing clear clearing_tally rounds ascending subsets each_first orders cycles along edges entry product_of sum_of weigh first_of
    heaviest pairs_at best_cycle subset_weight evaluation_tally resolved record_of pairs_of recipient_by donor_by recipient_table donor_table total table_fault
    edge_fault short_to_read short_to_fill plan_fault left_by planned_by plan_from filled_lent planning read table_of blank found_in found planned credited
    bounds_by bounds_of Before.choosing Before.rounds Floorless.plan_fault Floorless.left_by Floorless.planning
computed = (refl, refl, refl, refl, refl, refl, refl, refl, refl, refl, refl, refl, refl, refl, refl)

pub pools : PoolsComeOut
pools = computed.0

pub floors_come_out : FloorsComeOut
floors_come_out = computed.1

pub first_fault_told : FirstFaultTold
first_fault_told = computed.2

pub four_before_thirteen : FourBeforeThirteen
four_before_thirteen = computed.3

pub past_unchanged : PastUnchanged
past_unchanged = computed.4

-- ---- W-209's edges, and W-208's bound, tight

-- a swap among n pairs
swap : (n : ℕ) (m : ℕ → ℕ → ℕ) (a b : ℕ) → a < n → b < n → eqb a b ≡ false → m a b ≡ 1 → m b a ≡ 1 → Exchange 3 n m (a ∷ b ∷ [])
unfolding among either along edges
swap n m a b h k d e g = record { least = omega arith; most = omega arith; pool = (h, (k, tt)); different = (rw d, (refl, tt)); executable = (e, (g, tt)) }

k5-set : ExchangeSetOf (input_of k5) ((0 ∷ 1 ∷ []) ∷ [])
unfolding table entry read table_of
k5-set = record { exchanges = (swap 2 (input_of k5).compatible 0 1 (omega arith) (omega arith) refl refl refl, tt); apart = (tt, tt) }

pub weightless_come_out : WeightlessComeOut
unfolding table along edges entry product_of sum_of weigh total read table_of
weightless_come_out = record { come = computed.12; past = computed.13; before = computed.14; rival = (k5-set, refl) }

k8-set : (f : ℕ) → ExchangeSetOf (input_of (k8 f)) k8rival
unfolding table among meets either entry read table_of
k8-set f =
    let of = swap 6 (input_of (k8 f)).compatible in
    record {
      exchanges = (
        of 0 3 (omega arith) (omega arith) refl refl refl,
        (of 1 4 (omega arith) (omega arith) refl refl refl, (of 2 5 (omega arith) (omega arith) refl refl refl, tt)),
      );
      apart = ((refl, (refl, tt)), ((refl, tt), (tt, tt)));
    }

four-set : ExchangeSetOf (input_of four) four_rival
unfolding table among meets either entry read table_of
four-set =
    let of = swap 4 (input_of four).compatible in
    record {
      exchanges = (of 0 2 (omega arith) (omega arith) refl refl refl, (of 1 3 (omega arith) (omega arith) refl refl refl, tt));
      apart = ((refl, tt), (tt, tt));
    }

seven-set : ExchangeSetOf (input_of seven) seven_rival
unfolding table among meets either along edges entry read table_of
seven-set =
    let of = swap 7 (input_of seven).compatible in
    record {
      exchanges = (
        record {
          least = omega arith;
          most = omega arith;
          pool = (omega arith, (omega arith, (omega arith, tt)));
          different = (refl, (refl, (refl, tt)));
          executable = (refl, (refl, (refl, tt)));
        },
        (of 1 5 (omega arith) (omega arith) refl refl refl, (of 2 6 (omega arith) (omega arith) refl refl refl, tt)),
      );
      apart = ((refl, (refl, tt)), ((refl, tt), (tt, tt)));
    }

square-set : ExchangeSet 4 4 (input_of square).compatible ((0 ∷ 1 ∷ 2 ∷ 3 ∷ []) ∷ [])
unfolding table among meets either along edges entry read table_of
square-set = record {
  exchanges = (
    record {
      least = omega arith;
      most = omega arith;
      pool = (omega arith, (omega arith, (omega arith, (omega arith, tt))));
      different = (refl, (refl, (refl, (refl, tt))));
      executable = (refl, (refl, (refl, (refl, tt))));
    },
    tt,
  );
  apart = (tt, tt);
}

ten-set : ExchangeSetOf (input_of ten) ten_rival
unfolding table among meets either entry read table_of
ten-set =
    let of = swap 10 (input_of ten).compatible in
    record {
      exchanges = (
        of 0 5 (omega arith) (omega arith) refl refl refl,
        (
          of 1 6 (omega arith) (omega arith) refl refl refl,
          (
            of 2 7 (omega arith) (omega arith) refl refl refl,
            (of 3 8 (omega arith) (omega arith) refl refl refl, (of 4 9 (omega arith) (omega arith) refl refl refl, tt)),
          ),
        ),
      );
      apart = ((refl, (refl, (refl, (refl, tt)))), ((refl, (refl, (refl, tt))), ((refl, (refl, tt)), ((refl, tt), (tt, tt)))));
    }

pub credits_come_out : CreditsComeOut
unfolding table among meets either along edges entry product_of sum_of weigh total read table_of
credits_come_out = record {
  triple = record { bounds = computed.5; set = k8-set 0; above = (omega arith, (omega arith, (omega arith, tt))); weight = refl };
  floor = record { bounds = computed.6; set = k8-set 5; above = (omega arith, (omega arith, (omega arith, tt))); weight = refl };
  two = record { bounds = computed.8; set = four-set; above = (omega arith, (omega arith, tt)); weight = refl };
  shuffled = record { bounds = computed.9; set = seven-set; above = (omega arith, (omega arith, (omega arith, tt))); weight = refl };
  both = record { bounds = computed.10; set = ten-set; above = (omega arith, (omega arith, (omega arith, (omega arith, (omega arith, tt))))); weight = refl };
  light = (computed.7, k8-set 6, refl, (λ h. absurd (omega (arith, h.0))));
  sharing = (
    (swap 4 (input_of four).compatible 0 1 (omega arith) (omega arith) refl refl refl, four-set.exchanges),
    (omega arith, (omega arith, (omega arith, tt))),
    refl,
  );
  larger = (computed.11, square-set, refl);
}
