-- Every list of calls: what the pool holds, its tables, and which calls finish. Assumes nothing.
use mathlib.Core.Path.{◌≡◌, refl, sym, ap, ap₂, subst, ◌∙◌}
use mathlib.Core.Bool.{false}
use mathlib.Core.List.{List, [], ◌∷◌, ◌++◌, append_assoc, append-nil, flat_map}
use Prim.Native.Nat.{ℕ, zero, suc, ◌+◌, ◌-◌, ◌*◌, ◌≤◌, ◌<◌}
use native.Mathlib.Nat.{add-zero, le_trans, mul-le-mul}
use native.Mathlib.Numerals.{add-one}
use native.Mathlib.Omega.{arith}
use native.Mathlib.Decide.{dec_lt}
use borrow.Author.Tests.{eq-eqb, ne_eqb}
use lib.Dec.{eqb}
use Rattle.laws.specs.Below.{table, either}
use Rattle.laws.specs.Lent.{filled}
use Rattle.laws.proofs.Below.{table_cong, table_add}
use Rattle.laws.proofs.Lists.{flat_map_append, flat_map_suc}
use Rattle.refusal.specs.Answer.{Answer, finished, refused, Outcome, outcome}
use Rattle.pool.specs.Pool.{Pair}
use Rattle.pool.specs.Points.{Points}
use Rattle.pool.specs.Tables.{Fields, item_in, field_room}
use Rattle.pool.specs.Faultless.{InRange, Unlike, FieldsHold}
use Rattle.pool.proofs.Rooms.{field_room_hold, hold_field_room}
use Rattle.donation.specs.Compatibility.{compatibility}
use Rattle.donation.specs.Weight.{weight}
use Rattle.graph.specs.Graph.{Graph, graph, in_rows, filled_graph}
use Rattle.graph.proofs.Rows.{rows_entry}
use Rattle.weighing.specs.Promises.{Fit}
use Rattle.live.specs.Live.{Live, weighed_by, pair_of, pairs_of}
use Rattle.live.specs.Calls.{registered, registering, up, without_row, without_at, withdrawing, without_pair}
use Rattle.live.specs.Faultless.{Kept, Registrable}
use Rattle.live.specs.Lists.{Call, does, after, said, Said, trace, takes_out, withdrawn_in, staying, brought_in, held}
use Rattle.live.specs.Promises.{AllPast, Empty, AsLong, FirstWith}
use Rattle.live.proofs.Tables.{filled_again, rows_cong, past_hold, up_before, up_from, up-below, up_less, up_same, pair_moved}
use Rattle.live.proofs.Promised.{is_registered, new_faultless, registering_done, registering-left, gone, gone_first, is_without, withdrawing_done, withdrawing-left}

-- ## A pool that is right: its pairs and numbers have no fault, and M and W are what building gives

pub record Right (l : Live) : Type 0 where
  pub kept : Kept l
  pub in_range : (i : ℕ) → i < l.count → InRange (pair_of l i)
  pub unlike : Unlike l.count (pair_of l)
  pub built : filled_graph (weighed_by l) l.count (pair_of l) l.graph ≡ l.graph

-- an edge is of two pairs, wherever they stand
module _ (pair other : ℕ → Pair) (i j a b : ℕ) (e : pair i ≡ other a) (f : pair j ≡ other b) (s : eqb i j ≡ eqb a b) where
  pub compatibility_moved : compatibility pair i j ≡ compatibility other a b
  unfolding compatibility
  compatibility_moved = rw (s, e, f)

  pub weight_moved : (q : Points) → weight q pair i j ≡ weight q other a b
  unfolding weight
  weight_moved q = rw (s, e, f)

-- tables that hold n pairs hold fewer
hold_fewer : (k n : ℕ) (f : Fields) → k ≤ n → FieldsHold n f → FieldsHold k f
hold_fewer k n f l h = field_room_hold k f (le_trans l (hold_field_room n f h))

fit_fewer : (k n : ℕ) (g : Graph) → k ≤ n → Fit n g → Fit k g
fit_fewer k n g l h =
    record {
      compatibilities = omega (arith, mul-le-mul l l, h.compatibilities);
      weights = omega (arith, mul-le-mul l l, h.weights);
    }

-- ### with no pair

pub empty_right : (l : Live) → Empty l → l.count ≡ 0 → Right l
unfolding filled_graph in_rows table filled
empty_right l w e =
    let few : l.count ≤ 200 = omega (arith, e) in
    let z : l.count * l.count ≡ 0 = rw e in
    record {
      kept =
          record {
            few = few;
            keep =
                record {
                  fields =
                      record {
                        ids = omega (arith, e);
                        donor_blood = omega (arith, e);
                        patient_blood = omega (arith, e);
                        donor_age = omega (arith, e);
                        patient_age = omega (arith, e);
                        donor_antigens = omega (arith, e);
                        patient_antigens = omega (arith, e);
                        patient_antibodies = omega (arith, e);
                      };
                  graph = record { compatibilities = omega (arith, z); weights = omega (arith, z) };
                  suitable = omega (arith, e);
                  points = w.points;
                };
            sound = w.sound;
            numbers = λ j h. absurd (omega (arith, h, e));
          };
      in_range = λ i h. absurd (omega (arith, h, e));
      unlike = λ i j k h _. omega (arith, h, e);
      built = rw e;
    }

-- ### with a pair more

module _ (p : Pair) (l : Live) (w : Right l) (r : Registrable p l) where
  abbrev more : Live
  more = registered p l

  pub more_right : Right more
  unfolding registered filled_graph
  more_right =
      let n = l.count in
      let d = is_registered p l r in
      let whole = new_faultless p l r in
      record {
        kept =
            record {
              few = whole.few;
              keep =
                  record {
                    fields = whole.hold;
                    graph =
                        record {
                          compatibilities = rw d.past.compatibilities.long r.more.graph.compatibilities;
                          weights = rw d.past.weights.long r.more.graph.weights;
                        };
                    suitable = rw d.past.suitable.long r.more.suitable;
                    points = w.kept.keep.points;
                  };
              sound = w.kept.sound;
              numbers = d.numbers;
            };
        in_range = whole.in_range;
        unlike = whole.unlike;
        built = ap₂ graph (filled_again _ l.graph.compatibilities) (filled_again _ l.graph.weights);
      }

  pub more_pairs : pairs_of more ≡ pairs_of l ++ (p ∷ [])
  unfolding registered table
  more_pairs =
      let n = l.count in
      let d = is_registered p l r in
      ap (λ (k : ℕ). table k (pair_of more)) (add-one n)
      ∙ ap₂ (λ (ps : List Pair) (q : Pair). ps ++ (q ∷ [])) (table_cong n (pair_of more) (pair_of l) d.others) d.last

-- ### with a pair less

module _ (a : ℕ) (l : Live) (w : Right l) (h : a < l.count) where
  abbrev less : Live
  less = without_at a l

  abbrev m : ℕ
  m = l.count - 1

  -- the entries of M and W are those of the pairs that stay
  stays_compatible : (i j : ℕ) → i < m → j < m
      → item_in l.graph.compatibilities (up a i * l.count + up a j) ≡ compatibility (pair_of less) i j
  unfolding without_at filled_graph
  stays_compatible i j k g =
      let n = l.count in
      ap (λ (t : List ℕ). item_in t (up a i * n + up a j)) (sym (ap (λ (x : Graph). x.compatibilities) w.built))
      ∙ rows_entry n (compatibility (pair_of l)) l.graph.compatibilities (up a i) (up a j) (up-below a n i k) (up-below a n j g)
      ∙ sym
      (compatibility_moved (pair_of less) (pair_of l) i j (up a i) (up a j) (pair_moved a n l.fields i k) (pair_moved a n l.fields j g)
      (sym (up_same a i j)))

  stays_weighing : (i j : ℕ) → i < m → j < m
      → item_in l.graph.weights (up a i * l.count + up a j) ≡ weight (weighed_by l) (pair_of less) i j
  unfolding without_at filled_graph
  stays_weighing i j k g =
      let n = l.count in
      ap (λ (t : List ℕ). item_in t (up a i * n + up a j)) (sym (ap (λ (x : Graph). x.weights) w.built))
      ∙ rows_entry n (weight (weighed_by l) (pair_of l)) l.graph.weights (up a i) (up a j) (up-below a n i k) (up-below a n j g)
      ∙ sym
      (weight_moved (pair_of less) (pair_of l) i j (up a i) (up a j) (pair_moved a n l.fields i k) (pair_moved a n l.fields j g)
      (sym (up_same a i j)) (weighed_by l))

  less_built : filled_graph (weighed_by l) m (pair_of less) less.graph ≡ less.graph
  unfolding without_at without_row filled_graph
  less_built =
      ap₂ graph
      (ap (λ (x : List ℕ). filled x less.graph.compatibilities) (sym (rows_cong m _ _ stays_compatible))
      ∙ filled_again _ l.graph.compatibilities)
      (ap (λ (x : List ℕ). filled x less.graph.weights) (sym (rows_cong m _ _ stays_weighing)) ∙ filled_again _ l.graph.weights)

  pub less_right : Right less
  unfolding without_at
  less_right =
      let n = l.count in
      let d = is_without l w.kept a h in
      let fit : Fit m l.graph = fit_fewer m n l.graph (omega arith) w.kept.keep.graph in
      let moved : (i : ℕ) → i < m → pair_of less i ≡ pair_of l (up a i) = pair_moved a n l.fields in
      record {
        kept =
            record {
              few = omega (arith, w.kept.few);
              keep =
                  record {
                    fields =
                        past_hold m m l.fields (without_pair a n l.fields) d.past.fields
                        (hold_fewer m n l.fields (omega arith) w.kept.keep.fields);
                    graph =
                        record {
                          compatibilities = rw d.past.compatibilities.long fit.compatibilities;
                          weights = rw d.past.weights.long fit.weights;
                        };
                    suitable = rw d.past.suitable.long (omega (arith, w.kept.keep.suitable));
                    points = w.kept.keep.points;
                  };
              sound = w.kept.sound;
              numbers = d.numbers;
            };
        in_range = λ i k. subst InRange (sym (moved i k)) (w.in_range (up a i) (up-below a n i k));
        unlike =
            λ i j k g e.
            w.unlike (up a i) (up a j) (up_less a j i k) (up-below a n i g)
            (sym (ap (λ (q : Pair). q.id) (moved j (omega (arith, k, g)))) ∙ e ∙ ap (λ (q : Pair). q.id) (moved i g));
        built = less_built;
      }

-- ## What a list of calls leaves

module _ (f g : Pair → List Pair) where
  -- two ways to go through pairs that agree
  through_same : (n : ℕ) (p q : ℕ → Pair) → ((i : ℕ) → i < n → f (p i) ≡ g (q i)) → flat_map f (table n p) ≡ flat_map g (table n q)
  unfolding table flat_map
  through_same zero p q h = refl
  through_same (suc n) p q h =
      flat_map_suc f p n
      ∙ ap₂ (λ (x y : List Pair). x ++ y) (through_same n p q (λ i l. h i (omega arith))) (h n (omega arith))
      ∙ sym (flat_map_suc g q n)

-- one pair of which nothing is left
through_one : (f : Pair → List Pair) (p : ℕ → Pair) → f (p 0) ≡ [] → flat_map f (table 1 p) ≡ []
unfolding table flat_map
through_one f p e = append-nil (f (p 0)) ∙ e

-- of pairs that have each an id of their own, no other has that of the first
module _ (x : ℕ) (l : Live) (w : Right l) (a : ℕ) (first : FirstWith x l a) where
  pub other_id : (i : ℕ) → i < l.count → (i ≡ a → ⊥) → (pair_of l i).id ≡ x → ⊥
  other_id i h d e = go (dec_lt i a)
    where
      go : Dec (i < a) → ⊥
      go (yes k) = first.first i k e
      go (no k) = w.unlike i a (omega (arith, d)) h (first.there ∙ sym e)

-- a withdrawal takes out the pair with its id, and no other
module _ (x : ℕ) (l : Live) (w : Right l) (a : ℕ) (first : FirstWith x l a) (since : List Said) where
  abbrev before : List Said
  before = said (Call.withdraw x) (finished tt) ∷ since

  stays_other : (q : Pair) → (q.id ≡ x → ⊥) → staying before q ≡ staying since q
  unfolding staying withdrawn_in takes_out either
  stays_other q d = rw (ne_eqb x q.id (λ e. d (sym e)))

  goes_it : (q : Pair) → q.id ≡ x → staying before q ≡ []
  unfolding staying withdrawn_in takes_out either
  goes_it q e = rw (eq-eqb x q.id (sym e))

  pub taken_out : flat_map (staying before) (pairs_of l) ≡ flat_map (staying since) (pairs_of (without_at a l))
  unfolding without_at
  taken_out =
      let n = l.count in
      let h : a < n = first.below in
      let pair = pair_of l in
      let pair' = pair_of (without_at a l) in
      let rest : ℕ = n - 1 - a in
      let whole : n ≡ a + (1 + rest) = omega arith in
      let part : n - 1 ≡ a + rest = omega arith in
      let moved : (i : ℕ) → i < n - 1 → pair' i ≡ pair (up a i) = pair_moved a n l.fields in
      let S = staying before in
      let T = staying since in
      let one : flat_map S (table a pair) ≡ flat_map T (table a pair') =
      through_same S T a pair pair'
      (λ i k.
      stays_other (pair i) (other_id x l w a first i (omega arith) (λ e. omega (arith, k, e)))
      ∙ ap T (sym (moved i (omega arith) ∙ ap pair (up_before a i k)))) in
      let two : flat_map S (table rest (λ j. pair (a + (1 + j)))) ≡ flat_map T (table rest (λ j. pair' (a + j))) =
      through_same S T rest _ _
      (λ j k.
      stays_other (pair (a + (1 + j))) (other_id x l w a first (a + (1 + j)) (omega arith) (λ e. omega (arith, e)))
      ∙ ap T (sym (moved (a + j) (omega arith) ∙ ap pair (up_from a (a + j) (omega arith) ∙ omega arith)))) in
      let split : table n pair ≡ table a pair ++ (table 1 (λ j. pair (a + j)) ++ table rest (λ j. pair (a + (1 + j)))) =
      ap (λ (k : ℕ). table k pair) whole
      ∙ table_add a (1 + rest) pair
      ∙ ap (λ (ps : List Pair). table a pair ++ ps) (table_add 1 rest (λ j. pair (a + j))) in
      let it : flat_map S (table 1 (λ j. pair (a + j))) ≡ [] =
      through_one S (λ j. pair (a + j)) (ap (λ (k : ℕ). S (pair k)) (add-zero a) ∙ goes_it (pair a) first.there) in
      ap (flat_map S) split
      ∙ flat_map_append S (table a pair) _
      ∙ ap₂ (λ (x y : List Pair). x ++ y) one (flat_map_append S (table 1 (λ j. pair (a + j))) _ ∙ ap₂ (λ (x y : List Pair). x ++ y) it two)
      ∙ sym (flat_map_append T (table a pair') (table rest (λ j. pair' (a + j))))
      ∙ ap (flat_map T) (sym (table_add a rest pair') ∙ ap (λ (k : ℕ). table k pair') (sym part))

-- what was said of a call that takes nothing out leaves the pairs as they were
record Leaves (s : Said) : Type 0 where
  all : (x : ℕ) → takes_out x s.call s.answer ≡ false

stays_one : (s : Said) (since : List Said) → Leaves s → (p : Pair) → staying (s ∷ since) p ≡ staying since p
unfolding staying withdrawn_in either
stays_one s since h p = rw (h.all p.id)

stays_all : (s : Said) (since : List Said) → Leaves s → (ps : List Pair) → flat_map (staying (s ∷ since)) ps ≡ flat_map (staying since) ps
unfolding flat_map
stays_all s since h [] = refl
stays_all s since h (p ∷ ps) = ap₂ (λ (x y : List Pair). x ++ y) (stays_one s since h p) (stays_all s since h ps)

-- tables that are as long as they were: at once, one after another, and where nothing changed past a place
long_same : (l : Live) → AsLong l l
long_same l = record { fields = refl; compatibilities = refl; weights = refl; suitable = refl }

long_after : (l m n : Live) → AsLong l m → AsLong m n → AsLong l n
long_after l m n a b =
    record {
      fields = b.fields ∙ a.fields;
      compatibilities = b.compatibilities ∙ a.compatibilities;
      weights = b.weights ∙ a.weights;
      suitable = b.suitable ∙ a.suitable;
    }

past_long : (n : ℕ) (old new : Live) → AllPast n old new → AsLong old new
unfolding field_room
past_long n old new p =
    let f = p.fields in
    record {
      fields =
          rw (f.ids.long, f.donor_blood.long, f.patient_blood.long, f.donor_age.long, f.patient_age.long, f.donor_antigens.long, f.patient_antigens.long, f.patient_antibodies.long);
      compatibilities = p.compatibilities.long;
      weights = p.weights.long;
      suitable = p.suitable.long;
    }

-- after a list of calls the pool is right, holds of its pairs those not withdrawn and then those that the list brought in, and has its points
pub record Kept-by (l : Live) (calls : List Call) : Type 0 where
  pub right : Right (after calls l)
  pub long : AsLong l (after calls l)
  pub pairs : pairs_of (after calls l) ≡ flat_map (staying (trace calls l)) (pairs_of l) ++ held (trace calls l)
  pub points : (after calls l).points ≡ l.points

nothing_said : (ps : List Pair) → flat_map (staying []) ps ≡ ps
unfolding flat_map staying withdrawn_in
nothing_said [] = refl
nothing_said (p ∷ ps) = ap (λ (l : List Pair). p ∷ l) (nothing_said ps)

-- a call c that answers a and leaves l', and the list after it
module _ (c : Call) (cs : List Call) (l l' : Live) (a : Answer (Unit {0})) (e : does c l ≡ outcome a l') (w : Kept-by l' cs) (same : l'.points ≡ l.points)
    (as_long : AsLong l l')
    (brings : flat_map (staying (trace cs l')) (pairs_of l')
    ≡ flat_map (staying (said c a ∷ trace cs l')) (pairs_of l) ++ brought_in c a (trace cs l')) where
  kept_next : Kept-by l (c ∷ cs)
  unfolding after trace held
  kept_next =
      let r =
      subst
      (λ (o : Outcome (Unit {0}) Live).
      Right (after cs o.lent)
      × AsLong l (after cs o.lent)
      × (pairs_of (after cs o.lent)
      ≡ flat_map (staying (said c o.answer ∷ trace cs o.lent)) (pairs_of l)
      ++ (brought_in c o.answer (trace cs o.lent) ++ held (trace cs o.lent)))
      × ((after cs o.lent).points ≡ l.points))
      (sym e) (
        w.right,
        long_after l l' (after cs l') as_long w.long,
        w.pairs ∙ ap (λ (ps : List Pair). ps ++ held (trace cs l')) brings
            ∙ append_assoc (flat_map (staying (said c a ∷ trace cs l')) (pairs_of l)) (brought_in c a (trace cs l')) (held (trace cs l')),
        w.points ∙ same,
      ) in
      record { right = r.0; long = r.1; pairs = r.2; points = r.3 }

module _ (cs : List Call) (l : Live) (w : Right l) (later : (l' : Live) → Right l' → Kept-by l' cs) where
  -- a refused call, whatever it was
  kept_refused : (c : Call) (k o : ℕ) → does c l ≡ outcome (refused k o) l → ((x : ℕ) → takes_out x c (refused k o) ≡ false)
      → ((t : List Said) → brought_in c (refused k o) t ≡ []) → Kept-by l (c ∷ cs)
  kept_refused c k o e none nothing =
      let s = said c (refused k o) in
      let t = trace cs l in
      kept_next c cs l l (refused k o) e (later l w) refl (long_same l)
      (sym
      (ap (λ (ps : List Pair). flat_map (staying (s ∷ t)) (pairs_of l) ++ ps) (nothing t)
      ∙ append-nil _
      ∙ stays_all s t (record { all = none }) (pairs_of l)))

  kept_register : (p : Pair) → Kept-by l (Call.register p ∷ cs)
  unfolding does takes_out brought_in flat_map
  kept_register p = go (registering p l).answer refl
    where
      go : (a : Answer (Unit {0})) → (registering p l).answer ≡ a → Kept-by l (Call.register p ∷ cs)
      go (finished done) h =
          let d = registering_done p l h in
          let l' = registered p l in
          let s = said (Call.register p) (finished tt) in
          let t = trace cs l' in
          kept_next (Call.register p) cs l l' (finished tt) (ap₂ outcome h d.1) (later l' (more_right p l w d.0)) (is_registered p l d.0).past.points
          (past_long _ l l' (is_registered p l d.0).past)
          (ap (flat_map (staying t)) (more_pairs p l w d.0)
          ∙ flat_map_append (staying t) (pairs_of l) (p ∷ [])
          ∙ ap₂ (λ (x y : List Pair). x ++ y) (sym (stays_all s t (record { all = λ x. refl }) (pairs_of l))) (append-nil (staying t p)))
      go (refused k o) h =
          kept_refused (Call.register p) k o (ap₂ outcome h (registering-left p l k o h)) (λ x. refl) (λ t. refl)

  kept_withdraw : (x : ℕ) → Kept-by l (Call.withdraw x ∷ cs)
  unfolding does takes_out brought_in
  kept_withdraw x = go (withdrawing x l).answer refl
    where
      go : (a : Answer (Unit {0})) → (withdrawing x l).answer ≡ a → Kept-by l (Call.withdraw x ∷ cs)
      go (finished done) h =
          let d = withdrawing_done x l h in
          let f = gone_first x l d.0 in
          let l' = without_at (gone x l) l in
          let t = trace cs l' in
          kept_next (Call.withdraw x) cs l l' (finished tt) (ap₂ outcome h d.1) (later l' (less_right (gone x l) l w f.below))
          (is_without l w.kept (gone x l) f.below).past.points
          (past_long _ l l' (is_without l w.kept (gone x l) f.below).past)
          (sym (append-nil _ ∙ taken_out x l w (gone x l) f t))
      go (refused k o) h =
          kept_refused (Call.withdraw x) k o (ap₂ outcome h (withdrawing-left x l k o h)) (λ x. refl) (λ t. refl)

pub kept_by : (calls : List Call) (l : Live) → Right l → Kept-by l calls
unfolding after trace held
kept_by [] l w = record { right = w; long = long_same l; pairs = sym (append-nil _ ∙ nothing_said (pairs_of l)); points = refl }
kept_by (Call.register p ∷ cs) l w = kept_register cs l w (kept_by cs) p
kept_by (Call.withdraw x ∷ cs) l w = kept_withdraw cs l w (kept_by cs) x
