-- One choice after another. Assumes nothing.
use Prim.Native.Nat.{ℕ, ◌+◌, ◌*◌, ◌^◌, ◌≤◌, ◌<◌}
use mathlib.Core.List.{List, [], ◌∷◌, ◌++◌, append-nil, map, map-append, flat_map}
use mathlib.Core.Path.{◌≡◌, refl, sym, ap, subst, ◌∙◌}
use native.Mathlib.Nat.{zero-add, add-zero}
use native.Mathlib.Numerals.{add-one}
use native.Mathlib.Decide.{dec_lt}
use native.Mathlib.Omega.{arith}
use lib.ListN.{length, get_or, take, replicate, length-append, length-map, length-replicate}
use lib.Seq.{take-suc, take_all}
use Rattle.laws.specs.Below.{table}
use Rattle.laws.specs.Lent.{stored, filled}
use Rattle.laws.proofs.Lent.{length-filled, stored_none, stored_one, stored-filled, stored_then}
use Rattle.cycle.specs.declared.Cycle.{Cycle}
use Rattle.exchange.specs.Subsets.{up_to_three, order, subset_count, Edge, entry, edges, weigh, pairs_at, best_cycle, subset_weight}
use Rattle.exchange.specs.Resolution.{record_of, pairs_of, resolved, total}
use Rattle.cursor.specs.Cursor.{OnSubset, places_at, subset_at}
use Rattle.cursor.specs.declared.Places.{Places}
use Rattle.cursor.proofs.Order.{is_subset, in_range_lem}
use Rattle.cursor.proofs.Standing.{stands_at}
use Rattle.entries.specs.Preconditions.{Readable, Shuffled}
use Rattle.evaluation.proofs.AllWeights.{weight_le}
use Rattle.resolution.specs.Records.{given, received, given_in, received_in, cycles_of, no_records, none_yet, with_cycle, resolved_cycles, Added}
use Rattle.resolution.specs.Preconditions.{Partners, RecordRoom, One, Resolving}
use Rattle.resolution.specs.declared.Giving.{Giving}
use Rattle.resolution.specs.declared.Resolved.{Resolved}
use Rattle.resolution.proofs.Cyclic.{Cyclic, chosen_cyclic, pairs_back, record-below, no_record, resolved-append, one_chosen, none_chosen, total-append}
use Rattle.resolution.proofs.Partnered.{given_more, received_more, given_long, received_long}

-- ## No choice

pub empty_yet : (n : ℕ) (c : Cycle) → (c.first ≡ n) × (c.second ≡ n) × (c.third ≡ n)
    → ◌≡◌ {A = Resolved} (record { weight = 0; cycles = 0; records = replicate 100 c }) (none_yet n)
empty_yet n c e = ap (λ (x : Cycle). record { weight = 0; cycles = 0; records = replicate 100 x }) (no_record n c e)

-- ## One choice

module _ (n : ℕ) (M W s : List ℕ) (typed : (i : ℕ) → get_or W i 0 < 2 ^ 16) (choice : ℕ) (r : Resolved) (donors recipients : List ℕ)
    (asked : One n M W s r donors recipients) where
  -- none was chosen
  pub none : subset_count (up_to_three n) ≤ choice → Added n M W (cycles_of (up_to_three n) M W s (choice ∷ [])) r donors recipients r donors recipients
  unfolding total given received flat_map
  none h =
      subst (λ (cs : List (List ℕ)). Added n M W cs r donors recipients r donors recipients) (sym (none_chosen (entry M n) (entry W n) s (order (up_to_three n)) choice h))
      (record {
        weight = sym (add-zero r.weight);
        cycles = sym (add-zero r.cycles);
        in_records = sym (stored_none r.cycles r.records);
        in_recipients = refl;
        in_donors = refl;
      })

  -- a subset was chosen, and the cursor stands there
  module _ (h : choice < subset_count (up_to_three n)) (p : Places) (there : p ≡ places_at (up_to_three n) choice) where
    pub asks_cycle : Readable n M W × Shuffled n s × OnSubset n p
    asks_cycle = (asked.readable, asked.shuffled, in_range_lem n choice asked.readable.few h p there)

    abbrev chosen : List ℕ
    chosen = pairs_at s (best_cycle (entry M n) (entry W n) s (get_or (order (up_to_three n)) choice []))

    cyclic : Cyclic n chosen
    cyclic = chosen_cyclic n (entry M n) (entry W n) s asked.shuffled choice asked.readable.few h

    module _ (g : Giving)
        (e : (g.cycle ≡ record_of n (pairs_at s (best_cycle (entry M n) (entry W n) s (subset_at n p))))
        × (g.weight ≡ weigh (entry M n) (entry W n) (pairs_at s (best_cycle (entry M n) (entry W n) s (subset_at n p))))) where
      same : pairs_at s (best_cycle (entry M n) (entry W n) s (subset_at n p)) ≡ chosen
      same = ap (λ (t : List ℕ). pairs_at s (best_cycle (entry M n) (entry W n) s t)) (stands_at n choice asked.readable.few h p there)

      record_is : g.cycle ≡ record_of n chosen
      record_is = e.0 ∙ ap (record_of n) same

      weight_is : g.weight ≡ weigh (entry M n) (entry W n) chosen
      weight_is = e.1 ∙ ap (weigh (entry M n) (entry W n)) same

      pub asks_engage : Partners n g.cycle donors recipients
      asks_engage =
          let b = subst (λ (c : Cycle). (c.first < n) × (c.second < n) × (c.third ≤ n)) (sym record_is) (record-below n chosen cyclic) in
          record { first = b.0; second = b.1; third = b.2; all_donors = asked.all_donors; all_recipients = asked.all_recipients }

      pub asks_append : RecordRoom r g
      unfolding subset_weight
      asks_append = record {
        few = asked.few;
        light =
            omega (
              arith,
              asked.light,
              weight_is,
              weight_le n M W s asked.readable asked.shuffled typed (get_or (order (up_to_three n)) choice []) (is_subset n choice asked.readable.few h),
            );
      }

      pairs_are : pairs_of n g.cycle ≡ chosen
      pairs_are = ap (pairs_of n) record_is ∙ pairs_back n chosen cyclic

      edges_are : flat_map edges (chosen ∷ []) ≡ edges (pairs_of n g.cycle)
      unfolding flat_map
      edges_are = append-nil (edges chosen) ∙ ap edges (sym pairs_are)

      pub added : (r' : Resolved) (donors' recipients' : List ℕ) → r' ≡ with_cycle r g
          → (recipients' ≡ given (edges (pairs_of n g.cycle)) recipients) × (donors' ≡ received (edges (pairs_of n g.cycle)) donors)
          → Added n M W (cycles_of (up_to_three n) M W s (choice ∷ [])) r donors recipients r' donors' recipients'
      unfolding total
      added r' donors' recipients' er es =
          subst (λ (cs : List (List ℕ)). Added n M W cs r donors recipients r' donors' recipients') (sym (one_chosen (entry M n) (entry W n) s (order (up_to_three n)) choice h))
          (record {
            weight = omega (arith, ap (λ (x : Resolved). x.weight) er, weight_is);
            cycles = ap (λ (x : Resolved). x.cycles) er;
            in_records = ap (λ (x : Resolved). x.records) er ∙ stored_one r.cycles g.cycle r.records (omega (arith, asked.few, asked.records))
                ∙ ap (λ (c : Cycle). stored r.cycles (c ∷ []) r.records) record_is;
            in_recipients = es.0 ∙ ap (λ (l : List Edge). given l recipients) (sym edges_are);
            in_donors = es.1 ∙ ap (λ (l : List Edge). received l donors) (sym edges_are);
          })

-- ## All choices

-- what one choice adds is little
record Little (n : ℕ) (M W : List ℕ) (ds : List (List ℕ)) : Type 0 where
  weight : total (entry M n) (entry W n) ds ≤ 196605
  cycles : length ds ≤ 1

module _ (n : ℕ) (M W s : List ℕ) (readable : Readable n M W) (shuffled : Shuffled n s) (typed : (i : ℕ) → get_or W i 0 < 2 ^ 16) where
  little_none : Little n M W []
  unfolding total flat_map
  little_none = record { weight = omega arith; cycles = omega arith }

  little_one : (choice : ℕ) → choice < subset_count (up_to_three n) → Little n M W (pairs_at s (best_cycle (entry M n) (entry W n) s (get_or (order (up_to_three n)) choice [])) ∷ [])
  unfolding total subset_weight
  little_one choice h = record {
    weight = omega (arith, weight_le n M W s readable shuffled typed (get_or (order (up_to_three n)) choice []) (is_subset n choice readable.few h));
    cycles = omega arith;
  }

  little : (choice : ℕ) → Little n M W (cycles_of (up_to_three n) M W s (choice ∷ []))
  little choice = elim (dec_lt choice (subset_count (up_to_three n))) [
    | yes h ↦ subst (Little n M W) (sym (one_chosen (entry M n) (entry W n) s (order (up_to_three n)) choice h)) (little_one choice h)
    | no h ↦ subst (Little n M W) (sym (none_chosen (entry M n) (entry W n) s (order (up_to_three n)) choice (omega arith))) little_none
  ]

-- the records of ds after those of cs
records_more : (n : ℕ) (cs ds : List (List ℕ)) (mid new : List Cycle) → length cs ≤ 100
    → mid ≡ filled (map (record_of n) cs) (no_records n) → new ≡ stored (length cs) (map (record_of n) ds) mid → new ≡ filled (map (record_of n) (cs ++ ds)) (no_records n)
records_more n cs ds mid new h e f =
    let all : length (no_records n) ≡ 100 = length-replicate 100 (record_of n []) in
    stored_then 0 (length cs) (map (record_of n) cs) (map (record_of n) ds) (no_records n) mid new (length-map cs (record_of n)) (omega (arith, all, h))
    (e ∙ sym (stored-filled (map (record_of n) cs) (no_records n)))
    (f ∙ ap (λ (k : ℕ). stored k (map (record_of n) ds) mid) (sym (zero-add (length cs))))
    ∙ stored-filled (map (record_of n) cs ++ map (record_of n) ds) (no_records n)
    ∙ ap (λ (l : List Cycle). filled l (no_records n)) (sym (map-append (record_of n) cs ds))

results : {w w' k k' : ℕ} {l l' : List Cycle} → w ≡ w' → k ≡ k' → l ≡ l'
    → ◌≡◌ {A = Resolved} (record { weight = w; cycles = k; records = l }) (record { weight = w'; cycles = k'; records = l' })
results e f g = cc

-- the loop of `resolve`, before the choice k
pub record BeforeChoice (n : ℕ) (M W s choices donors recipients : List ℕ) (r : Resolved) (k : ℕ) : Type 0 where
  pub sum : r.weight ≡ total (entry M n) (entry W n) (cycles_of (up_to_three n) M W s (take k choices))
  pub number : r.cycles ≡ length (cycles_of (up_to_three n) M W s (take k choices))
  pub in_records : r.records ≡ filled (map (record_of n) (cycles_of (up_to_three n) M W s (take k choices))) (no_records n)
  pub in_donors : donors ≡ received_in n (cycles_of (up_to_three n) M W s (take k choices))
  pub in_recipients : recipients ≡ given_in n (cycles_of (up_to_three n) M W s (take k choices))
  pub few : r.cycles ≤ k
  pub light : r.weight ≤ 196605 * k

module _ (n : ℕ) (M W s choices donors₀ recipients₀ : List ℕ) (asked : Resolving n M W s choices donors₀ recipients₀) where
  pub begins : (donors recipients : List ℕ) (r : Resolved) → donors ≡ table (length donors₀) (λ i. n) → recipients ≡ table (length recipients₀) (λ i. n)
      → r ≡ none_yet n → BeforeChoice n M W s choices donors recipients r 0
  unfolding resolved total filled given received flat_map
  begins donors recipients r ed er e =
      let weight : r.weight ≡ 0 = ap (λ (x : Resolved). x.weight) e in
      let cycles : r.cycles ≡ 0 = ap (λ (x : Resolved). x.cycles) e in
      record {
        sum = weight;
        number = cycles;
        in_records = ap (λ (x : Resolved). x.records) e;
        in_donors = ed ∙ ap (λ (k : ℕ). table k (λ i. n)) asked.all_donors;
        in_recipients = er ∙ ap (λ (k : ℕ). table k (λ i. n)) asked.all_recipients;
        few = omega (arith, cycles);
        light = omega (arith, weight);
      }

  module _ (donors recipients : List ℕ) (r : Resolved) (k : ℕ) (inv : BeforeChoice n M W s choices donors recipients r k) where
    pub donors_kept : length donors ≡ length donors₀
    donors_kept = ap length inv.in_donors ∙ received_long n _ ∙ sym asked.all_donors

    pub recipients_kept : length recipients ≡ length recipients₀
    recipients_kept = ap length inv.in_recipients ∙ given_long n _ ∙ sym asked.all_recipients

    pub ends : length choices ≤ k
        → (r ≡ resolved_cycles n M W (cycles_of (up_to_three n) M W s choices))
        × (donors ≡ received_in n (cycles_of (up_to_three n) M W s choices)) × (recipients ≡ given_in n (cycles_of (up_to_three n) M W s choices))
    ends h =
        let all : cycles_of (up_to_three n) M W s (take k choices) ≡ cycles_of (up_to_three n) M W s choices = ap (cycles_of (up_to_three n) M W s) (take_all k choices h) in (
          results inv.sum inv.number inv.in_records ∙ ap (resolved_cycles n M W) all,
          inv.in_donors ∙ ap (received_in n) all,
          inv.in_recipients ∙ ap (given_in n) all,
        )

    module _ (h : k < length choices) where
      pub turns_few : k < 100
      turns_few = omega (arith, asked.few)

      all_records : length r.records ≡ 100
      all_records =
          let all : length (no_records n) ≡ 100 = length-replicate 100 (record_of n []) in
          let cs = cycles_of (up_to_three n) M W s (take k choices) in
          ap length inv.in_records
          ∙ length-filled (map (record_of n) cs) (no_records n) (omega (arith, length-map cs (record_of n), all, inv.number, inv.few, turns_few))
          ∙ all

      pub asks_one : One n M W s r donors recipients
      asks_one = record {
        readable = asked.readable;
        shuffled = asked.shuffled;
        few = omega (arith, turns_few, inv.few);
        light = omega (arith, turns_few, inv.light);
        records = all_records;
        all_donors = donors_kept ∙ asked.all_donors;
        all_recipients = recipients_kept ∙ asked.all_recipients;
      }

      module _ (typed : (i : ℕ) → get_or W i 0 < 2 ^ 16) (r' : Resolved) (donors' recipients' : List ℕ)
          (e : Added n M W (cycles_of (up_to_three n) M W s (get_or choices k 0 ∷ [])) r donors recipients r' donors' recipients') where
        small : Little n M W (cycles_of (up_to_three n) M W s (get_or choices k 0 ∷ []))
        small = little n M W s asked.readable asked.shuffled typed (get_or choices k 0)

        more : cycles_of (up_to_three n) M W s (take k choices) ++ cycles_of (up_to_three n) M W s (get_or choices k 0 ∷ []) ≡ cycles_of (up_to_three n) M W s (take (k + 1) choices)
        more =
            sym (resolved-append (entry M n) (entry W n) s (order (up_to_three n)) (take k choices) (get_or choices k 0 ∷ []))
            ∙ ap (cycles_of (up_to_three n) M W s) (sym (take-suc choices k 0 h) ∙ ap (λ (j : ℕ). take j choices) (sym (add-one k)))

        pub again : BeforeChoice n M W s choices donors' recipients' r' (k + 1)
        again =
            let cs = cycles_of (up_to_three n) M W s (take k choices) in
            let ds = cycles_of (up_to_three n) M W s (get_or choices k 0 ∷ []) in
            record {
              sum = e.weight ∙ ap (λ (x : ℕ). x + total (entry M n) (entry W n) ds) inv.sum ∙ sym (total-append (entry M n) (entry W n) cs ds)
                  ∙ ap (total (entry M n) (entry W n)) more;
              number = e.cycles ∙ ap (λ (x : ℕ). x + length ds) inv.number ∙ sym (length-append cs ds) ∙ ap length more;
              in_records = records_more n cs ds r.records r'.records (omega (arith, inv.number, inv.few, turns_few)) inv.in_records
                  (e.in_records ∙ ap (λ (j : ℕ). stored j (map (record_of n) ds) r.records) inv.number)
                  ∙ ap (λ (l : List (List ℕ)). filled (map (record_of n) l) (no_records n)) more;
              in_donors = e.in_donors ∙ ap (received (flat_map edges ds)) inv.in_donors ∙ received_more n cs ds ∙ ap (received_in n) more;
              in_recipients = e.in_recipients ∙ ap (given (flat_map edges ds)) inv.in_recipients ∙ given_more n cs ds ∙ ap (given_in n) more;
              few = omega (arith, inv.few, e.cycles, small.cycles);
              light = omega (arith, inv.light, e.weight, small.weight);
            }
