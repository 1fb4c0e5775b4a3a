-- Partners, edge by edge. Assumes nothing.
use Prim.Native.Nat.{ℕ, ◌<◌}
use mathlib.Core.Bool.{cond}
use mathlib.Core.List.{List, [], ◌∷◌, ◌++◌, map, flat_map}
use mathlib.Core.Path.{◌≡◌, refl, sym, ap, ◌∙◌}
use native.Mathlib.Omega.{arith}
use native.Mathlib.Decide.{ℕ_discrete}
use borrow.Author.Tests.{eq-eqb, ne_eqb}
use lib.Dec.{eqb}
use lib.ListN.{length, get_or, set, length-set}
use lib.Seq.{get_or-set_same, get_or-set_other}
use Rattle.laws.specs.Below.{table}
use Rattle.laws.proofs.Below.{length-table, get_or-table, table_cong, table-get_or}
use Rattle.laws.proofs.Lists.{flat_map_append}
use Rattle.cycle.specs.declared.Cycle.{Cycle}
use Rattle.greedy.proofs.Counts.{times, NoneTwice, AllBelow, same, other, same?}
use Rattle.exchange.specs.Subsets.{Edge, along, edges}
use Rattle.exchange.specs.Resolution.{pairs_of, recipient_by, recipient_table, donor_table}
use Rattle.exchange.specs.Rivals.{Each}
use Rattle.exchange.proofs.Charged.{joined}
use Rattle.exchange.proofs.Sets.{Inside}
use Rattle.exchange.proofs.Partners.{turned, donor_turned, from, absent, from_turned, each_turned, from_all, to_all, edges_all}
use Rattle.resolution.specs.Records.{given, received, nobody, given_in, received_in}

received_turned : (es : List Edge) (l : List ℕ) → received es l ≡ given (map turned es) l
unfolding received given
received_turned [] l = refl
received_turned (e ∷ es) l = received_turned es (set l e.patient e.donor)

-- a table with one entry set
set-table : (n : ℕ) (f : ℕ → ℕ) (d x : ℕ) → d < n → set (table n f) d x ≡ table n (λ i. cond (eqb i d) x (f i))
set-table n f d x h =
    sym (table-get_or 0 (set (table n f) d x) n (λ i. cond (eqb i d) x (f i)) (length-set (table n f) d x ∙ length-table n f) at)
  where
    at : (i : ℕ) → i < n → cond (eqb i d) x (f i) ≡ get_or (set (table n f) d x) i 0
    at i k = elim (ℕ_discrete i d) [
      | yes e ↦ rw (eq-eqb i d e, e) (sym (get_or-set_same (table n f) d x 0 (rw (length-table n f) h)))
      | no e ↦ rw (ne_eqb i d e) (sym (get_or-set_other (table n f) d i x 0 e ∙ get_or-table n f 0 i k))
    ]

-- the entries of a table after edges of which no donor is in two
given-table : (n : ℕ) (es : List Edge) (f : ℕ → ℕ) → Each (Inside n) es → NoneTwice (from es) → given es (table n f) ≡ table n (λ i. recipient_by es (f i) i)
unfolding given recipient_by times
given-table n [] f h o = refl
given-table n (e ∷ es) f h o =
    ap (given es) (set-table n f e.donor e.patient h.0.0)
    ∙ given-table n es (λ i. cond (eqb i e.donor) e.patient (f i)) h.1 (λ p. omega (arith, o p))
    ∙ table_cong n _ _ (λ i k. at i)
  where
    at : (i : ℕ) → recipient_by es (cond (eqb i e.donor) e.patient (f i)) i ≡ cond (eqb i e.donor) e.patient (recipient_by es (f i) i)
    at i = elim (same? i e.donor) [
      | same q z ↦ rw (eq-eqb i e.donor q) (absent es e.patient i (omega (arith, o i)))
      | other q z ↦ rw (ne_eqb i e.donor q)
    ]

-- ## The tables of cycles that share no pair

module _ (n : ℕ) (cs : List (List ℕ)) (below : Each (AllBelow n) cs) (once : NoneTwice (joined cs)) where
  pub given_all : given_in n cs ≡ recipient_table n cs
  unfolding recipient_table
  given_all = given-table n (flat_map edges cs) (λ i. n) (edges_all n cs below) (rw (from_all cs) once)

  pub received_all : received_in n cs ≡ donor_table n cs
  unfolding donor_table
  received_all =
      let es : List Edge = flat_map edges cs in
      received_turned es (nobody n)
      ∙ given-table n (map turned es) (λ i. n) (each_turned n es (edges_all n cs below)) (rw (from_turned es) (λ p. omega (arith, to_all cs p, once p)))
      ∙ table_cong n _ _ (λ i k. sym (donor_turned es n i))

-- ## More cycles

given-append : (es fs : List Edge) (l : List ℕ) → given fs (given es l) ≡ given (es ++ fs) l
unfolding given
given-append [] fs l = refl
given-append (e ∷ es) fs l = given-append es fs (set l e.donor e.patient)

received-append : (es fs : List Edge) (l : List ℕ) → received fs (received es l) ≡ received (es ++ fs) l
unfolding received
received-append [] fs l = refl
received-append (e ∷ es) fs l = received-append es fs (set l e.patient e.donor)

pub given_more : (n : ℕ) (cs ds : List (List ℕ)) → given (flat_map edges ds) (given_in n cs) ≡ given_in n (cs ++ ds)
given_more n cs ds =
    given-append (flat_map edges cs) (flat_map edges ds) (nobody n) ∙ ap (λ (es : List Edge). given es (nobody n)) (sym (flat_map_append edges cs ds))

pub received_more : (n : ℕ) (cs ds : List (List ℕ)) → received (flat_map edges ds) (received_in n cs) ≡ received_in n (cs ++ ds)
received_more n cs ds =
    received-append (flat_map edges cs) (flat_map edges ds) (nobody n) ∙ ap (λ (es : List Edge). received es (nobody n)) (sym (flat_map_append edges cs ds))

-- ## No table grows or shrinks

length-given : (es : List Edge) (l : List ℕ) → length (given es l) ≡ length l
unfolding given
length-given [] l = refl
length-given (e ∷ es) l = length-given es (set l e.donor e.patient) ∙ length-set l e.donor e.patient

pub given_long : (n : ℕ) (cs : List (List ℕ)) → length (given_in n cs) ≡ n
given_long n cs = length-given (flat_map edges cs) (nobody n) ∙ length-table n (λ i. n)

pub received_long : (n : ℕ) (cs : List (List ℕ)) → length (received_in n cs) ≡ n
received_long n cs =
    ap length (received_turned (flat_map edges cs) (nobody n)) ∙ length-given (map turned (flat_map edges cs)) (nobody n) ∙ length-table n (λ i. n)

-- ## The edges of a cycle

pub edges_two : (a b : ℕ) → edges (a ∷ b ∷ []) ≡ record { donor = a; patient = b } ∷ record { donor = b; patient = a } ∷ []
unfolding edges along
edges_two a b = refl

pub edges_three : (a b c : ℕ) → edges (a ∷ b ∷ c ∷ [])
    ≡ record { donor = a; patient = b } ∷ record { donor = b; patient = c } ∷ record { donor = c; patient = a } ∷ []
unfolding edges along
edges_three a b c = refl

-- what `engage` does, edge by edge
module _ (n : ℕ) (c : Cycle) where
  two_pairs_lem : c.third ≡ n → pairs_of n c ≡ c.first ∷ c.second ∷ []
  unfolding pairs_of
  two_pairs_lem e = rw (eq-eqb c.third n e)

  three_pairs : (c.third ≡ n → ⊥) → pairs_of n c ≡ c.first ∷ c.second ∷ c.third ∷ []
  unfolding pairs_of
  three_pairs e = rw (ne_eqb c.third n e)

  module _ (l l₁ l₂ : List ℕ) where
    pub given_two : c.third ≡ n → l₁ ≡ set l c.first c.second → l₂ ≡ set l₁ c.second c.first → l₂ ≡ given (edges (pairs_of n c)) l
    unfolding given
    given_two e e₁ e₂ =
        e₂ ∙ ap (λ (x : List ℕ). set x c.second c.first) e₁
        ∙ ap (λ (es : List Edge). given es l) (sym (ap edges (two_pairs_lem e) ∙ edges_two c.first c.second))

    pub received_two : c.third ≡ n → l₁ ≡ set l c.second c.first → l₂ ≡ set l₁ c.first c.second → l₂ ≡ received (edges (pairs_of n c)) l
    unfolding received
    received_two e e₁ e₂ =
        e₂ ∙ ap (λ (x : List ℕ). set x c.first c.second) e₁
        ∙ ap (λ (es : List Edge). received es l) (sym (ap edges (two_pairs_lem e) ∙ edges_two c.first c.second))

    module _ (l₃ : List ℕ) (e : c.third ≡ n → ⊥) where
      pub given_three : l₁ ≡ set l c.first c.second → l₂ ≡ set l₁ c.second c.third → l₃ ≡ set l₂ c.third c.first
          → l₃ ≡ given (edges (pairs_of n c)) l
      unfolding given
      given_three e₁ e₂ e₃ =
          e₃ ∙ ap (λ (x : List ℕ). set x c.third c.first) (e₂ ∙ ap (λ (x : List ℕ). set x c.second c.third) e₁)
          ∙ ap (λ (es : List Edge). given es l) (sym (ap edges (three_pairs e) ∙ edges_three c.first c.second c.third))

      pub received_three : l₁ ≡ set l c.second c.first → l₂ ≡ set l₁ c.third c.second → l₃ ≡ set l₂ c.first c.third
          → l₃ ≡ received (edges (pairs_of n c)) l
      unfolding received
      received_three e₁ e₂ e₃ =
          e₃ ∙ ap (λ (x : List ℕ). set x c.first c.third) (e₂ ∙ ap (λ (x : List ℕ). set x c.third c.second) e₁)
          ∙ ap (λ (es : List Edge). received es l) (sym (ap edges (three_pairs e) ∙ edges_three c.first c.second c.third))
