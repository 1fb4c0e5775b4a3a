-- The sheet of two sheets: it has no fault, and has the pairs and the shuffles of both. Assumes nothing.
use mathlib.Core.Path.{◌≡◌, refl, sym, ap, ap₂, ◌∙◌}
use mathlib.Core.List.{List, [], ◌++◌, map, map-append, map-id, map-map, append-nil, append_assoc}
use Prim.Native.Nat.{ℕ, ◌+◌, ◌^◌, ◌<◌}
use native.Mathlib.Nat.{add-zero}
use native.Mathlib.Omega.{arith}
use lib.ListN.{length, get_or, length-append}
use Rattle.laws.specs.Below.{table, Once}
use Rattle.laws.proofs.Below.{below_add, length-table, length-tables, get_or_first, get_or_second, table-get_or, table_cong, map-table, once_below}
use Rattle.laws.proofs.Digits.{big_endian_lt}
use Rattle.pool.specs.Pool.{Pair, Pool}
use Rattle.pool.specs.Points.{point_count}
use Rattle.pool.specs.Sheet.{sheet_of, sheet_length, number_at, version_in, pairs_in, point_at, pair_at, shuffle_at, pool_of}
use Rattle.pool.specs.Joining.{joined_pool, joined_sheet}
use Rattle.pool.specs.Faultless.{InRange, Unlike, EachOnce, Faultless, FaultlessSheet}
use Rattle.pool.specs.Joinable.{SamePoints, NoSharedId, Joinable, Contains, Joined, pairs_together, length_together, JoinedInAnyGrouping}
use Rattle.pool.specs.Promises.{EntriesBelow}
use Rattle.pool.proofs.Lengths.{length-sheet_of}
use Rattle.pool.proofs.Points.{second_count, counted_second}
use Rattle.pool.proofs.Reading.{sheet_pool}
use Rattle.pool.proofs.Read.{sheet_back}
use Rattle.pool.proofs.Written.{Fits, pooled, written, sheet_written, says_version, says_pairs, says_point, says_pair, says_number, says_pool, written_faultless}

-- ## Numbers that are first those of s, then those of t raised by n

module _ (n m : ℕ) (s t u : ℕ → ℕ) (low : (i : ℕ) → i < n → u i ≡ s i) (high : (j : ℕ) → j < m → u (n + j) ≡ t j + n) where
  -- v stands once among the first, and none of the second is so small
  once_low : (v : ℕ) → v < n → Once n s v → Once (n + m) u v
  once_low v k w =
      record {
        at = w.at;
        below = omega (arith, w.below);
        there = low w.at w.below ∙ w.there;
        only =
            below_add {P = λ i. u i ≡ v → i ≡ w.at} n m
            (λ i l e. w.only i l (sym (low i l) ∙ e))
            (λ j l e. absurd (omega (arith, high j l, e)));
      }

  -- v stands once among the second, and the first are all smaller
  once_high : ((i : ℕ) → i < n → s i < n) → (v : ℕ) → Once m t v → Once (n + m) u (n + v)
  once_high small v w =
      record {
        at = n + w.at;
        below = omega (arith, w.below);
        there = omega (arith, high w.at w.below, w.there);
        only =
            below_add {P = λ i. u i ≡ n + v → i ≡ n + w.at} n m
            (λ i l e. absurd (omega (arith, low i l, small i l, e)))
            (λ j l e. ap (λ (k : ℕ). n + k) (w.only j l (omega (arith, high j l, e))));
      }

  each_joined : EachOnce n s → EachOnce m t → EachOnce (n + m) u
  each_joined f g =
      below_add {P = Once (n + m) u} n m (λ v k. once_low v k (f v k)) (λ v k. once_high (once_below n s f) v (g v k))

-- ## Sheets of the same points

pub same_through : {a b c : List ℕ} → SamePoints a b → SamePoints b c → SamePoints a c
same_through s t =
    record { version = s.version ∙ t.version; points = λ e k l. s.points e k l ∙ t.points (sym s.version ∙ e) k l }

same_back : {a b : List ℕ} → SamePoints a b → SamePoints b a
same_back s = record { version = sym s.version; points = λ e k l. sym (s.points (s.version ∙ e) k l) }

-- their own points, as lists
same_lists : (a b : List ℕ) → SamePoints a b → table (point_count (version_in a)) (point_at a) ≡ table (point_count (version_in b)) (point_at b)
same_lists a b s =
    rw (← s.version)
    (table_cong (point_count (version_in a)) (point_at a) (point_at b)
    (λ k l. let e : version_in a ≡ 2 = counted_second (version_in a) k l in s.points e k (rw (second_count (version_in a) e) at l)))

-- ## The pool of two sheets, entry by entry

same_id : {p q x y : Pair} → p ≡ x → p.id ≡ q.id → q ≡ y → x.id ≡ y.id
same_id e h f = sym (ap (λ (q : Pair). q.id) e) ∙ h ∙ ap (λ (q : Pair). q.id) f

module _ (a b : List ℕ) where
  -- its pairs and its shuffle, as lists
  abbrev pub pair_list : List Pair
  pair_list = table (pairs_in a) (pair_at a) ++ table (pairs_in b) (pair_at b)

  abbrev pub number_list : List ℕ
  number_list = table (pairs_in a) (shuffle_at a (pairs_in a)) ++ table (pairs_in b) (λ j. shuffle_at b (pairs_in b) j + pairs_in a)

  -- its own points, which are the first's
  abbrev point_list : List ℕ
  point_list = table (point_count (version_in a)) (point_at a)

  pub joined_lists : joined_pool (pool_of a) (pool_of b) ≡ record { version = version_in a; points = point_list; pairs = pair_list; shuffle = number_list }
  unfolding joined_pool pool_of
  joined_lists =
      let raised : map (λ v. v + length (table (pairs_in a) (pair_at a))) (table (pairs_in b) (shuffle_at b (pairs_in b)))
      ≡ table (pairs_in b) (λ j. shuffle_at b (pairs_in b) j + pairs_in a) =
      ap (λ (k : ℕ). map (λ v. v + k) (table (pairs_in b) (shuffle_at b (pairs_in b)))) (length-table (pairs_in a) (pair_at a))
      ∙ map-table (λ v. v + pairs_in a) (pairs_in b) (shuffle_at b (pairs_in b)) in
      λ k. record { version = version_in a; points = point_list; pairs = pair_list; shuffle = table (pairs_in a) (shuffle_at a (pairs_in a)) ++ raised k }

  -- and as functions
  abbrev joined_pair : ℕ → Pair
  joined_pair i = get_or pair_list i (pair_at a 0)

  abbrev joined_number : ℕ → ℕ
  joined_number j = get_or number_list j 0

  first_pair_lem : (i : ℕ) → i < pairs_in a → joined_pair i ≡ pair_at a i
  first_pair_lem = get_or_first (pairs_in a) (pairs_in b) (pair_at a) (pair_at b) (pair_at a 0)

  second_pair : (j : ℕ) → j < pairs_in b → joined_pair (pairs_in a + j) ≡ pair_at b j
  second_pair = get_or_second (pairs_in a) (pairs_in b) (pair_at a) (pair_at b) (pair_at a 0)

  first_number : (i : ℕ) → i < pairs_in a → joined_number i ≡ shuffle_at a (pairs_in a) i
  first_number = get_or_first (pairs_in a) (pairs_in b) _ (λ j. shuffle_at b (pairs_in b) j + pairs_in a) 0

  second_number : (j : ℕ) → j < pairs_in b → joined_number (pairs_in a + j) ≡ shuffle_at b (pairs_in b) j + pairs_in a
  second_number = get_or_second (pairs_in a) (pairs_in b) (shuffle_at a (pairs_in a)) (λ j. shuffle_at b (pairs_in b) j + pairs_in a) 0

  joined_pool_lem : joined_pool (pool_of a) (pool_of b) ≡ pooled (version_in a) (point_at a) (pairs_together a b) joined_pair joined_number
  joined_pool_lem =
      let e1 : table (pairs_together a b) joined_pair ≡ pair_list = table-get_or _ pair_list _ _ (length-tables _ _ _ _) (λ i l. refl) in
      let e2 : table (pairs_together a b) joined_number ≡ number_list = table-get_or _ number_list _ _ (length-tables _ _ _ _) (λ i l. refl) in
      joined_lists ∙ sym (λ k. record { version = version_in a; points = point_list; pairs = e1 k; shuffle = e2 k })

  joined_written : joined_sheet a b ≡ written (version_in a) (point_at a) (pairs_together a b) joined_pair joined_number
  unfolding joined_sheet
  joined_written = ap sheet_of joined_pool_lem ∙ sheet_written (version_in a) (point_at a) (pairs_together a b) joined_pair joined_number

  pub length_joined : length (joined_sheet a b) ≡ length_together a b
  unfolding joined_sheet
  length_joined =
      ap (λ (p : Pool). length (sheet_of p)) joined_pool_lem
      ∙ length-sheet_of _ (length-table _ (point_at a)) (length-table _ joined_number ∙ sym (length-table _ joined_pair))
      ∙ ap (sheet_length (version_in a)) (length-table _ joined_pair)

  -- ## It has no fault

  module _ (w : Joinable a b) where
    joined_in_range : (i : ℕ) → i < pairs_together a b → InRange (joined_pair i)
    joined_in_range =
        below_add {P = λ i. InRange (joined_pair i)} (pairs_in a) (pairs_in b)
        (λ i l. rw (first_pair_lem i l) (w.first.pair i l).in_range)
        (λ j l. rw (second_pair j l) (w.second.pair j l).in_range)

    -- two of the first's, one of each, two of the second's
    joined_unlike : Unlike (pairs_together a b) joined_pair
    joined_unlike i j k l =
        below_add {P = λ i. (j : ℕ) → j < i → (joined_pair j).id ≡ (joined_pair i).id → ⊥} (pairs_in a) (pairs_in b)
        (λ i l j k e. (sheet_pool a w.first).unlike i j k l (same_id (first_pair_lem j (omega arith)) e (first_pair_lem i l)))
        (λ i l j k. below_add {P = λ j. j < pairs_in a + i → (joined_pair j).id ≡ (joined_pair (pairs_in a + i)).id → ⊥} (pairs_in a) (pairs_in b)
        (λ j m k e. w.apart j i m l (same_id (first_pair_lem j m) e (second_pair i l)))
        (λ j m k e. (sheet_pool b w.second).unlike i j (omega arith) l (same_id (second_pair j m) e (second_pair i l))) j (omega arith) k) i l j k

    joined_faultless : Faultless (version_in a) (point_at a) (pairs_together a b) joined_pair joined_number
    joined_faultless =
        record {
          version = w.first.head.version;
          points = (sheet_pool a w.first).points;
          few = w.few;
          in_range = joined_in_range;
          unlike = joined_unlike;
          each_once =
              each_joined (pairs_in a) (pairs_in b) (shuffle_at a (pairs_in a)) (shuffle_at b (pairs_in b)) joined_number first_number second_number
              w.first.shuffle.each_once w.second.shuffle.each_once;
        }

  -- ## It has the pairs and the shuffles of both

  module _ (ha : EntriesBelow 256 a) (hb : EntriesBelow 256 b) (w : Joinable a b) where
    bytes_fit : (c : List ℕ) → EntriesBelow 256 c → (i : ℕ) → Fits (pair_at c i)
    unfolding pair_at
    bytes_fit c h i =
        record {
          id = big_endian_lt c _ 4 h;
          donor_antigens = big_endian_lt c _ 8 h;
          patient_antigens = big_endian_lt c _ 8 h;
          patient_antibodies = big_endian_lt c _ 8 h;
        }

    -- the first's points are of two bytes
    joined_own : (k : ℕ) → k < point_count (version_in a) → point_at a k < 256 ^ 2
    unfolding number_at
    joined_own k l = big_endian_lt a _ 2 ha

    joined_fits : (i : ℕ) → i < pairs_together a b → Fits (joined_pair i)
    joined_fits =
        below_add {P = λ i. Fits (joined_pair i)} (pairs_in a) (pairs_in b)
        (λ i l. rw (first_pair_lem i l) (bytes_fit a ha i))
        (λ j l. rw (second_pair j l) (bytes_fit b hb j))

    -- a shuffle's numbers are below its N, and so these are below 200
    joined_small : (j : ℕ) → j < pairs_together a b → joined_number j < 256 ^ 2
    joined_small j l = omega (arith, w.few, once_below (pairs_together a b) joined_number (joined_faultless w).each_once j l)

    sheet_joined : FaultlessSheet (joined_sheet a b)
    sheet_joined = rw joined_written (written_faultless _ _ _ joined_pair joined_number (joined_faultless w) joined_own joined_fits joined_small)

    pub pool_joined : pool_of (joined_sheet a b) ≡ joined_pool (pool_of a) (pool_of b)
    pool_joined =
        ap pool_of joined_written ∙ says_pool _ _ _ joined_pair joined_number (joined_faultless w) joined_own joined_fits joined_small ∙ sym joined_pool_lem

    pub pairs_joined : pairs_in (joined_sheet a b) ≡ pairs_together a b
    pairs_joined = ap pairs_in joined_written ∙ says_pairs _ _ _ joined_pair joined_number (joined_faultless w) joined_own joined_fits joined_small

    pub version_joined : version_in (joined_sheet a b) ≡ version_in a
    version_joined =
        ap version_in joined_written ∙ says_version _ _ _ joined_pair joined_number (joined_faultless w) joined_own joined_fits joined_small

    point_joined : (k : ℕ) → k < point_count (version_in a) → point_at (joined_sheet a b) k ≡ point_at a k
    point_joined k l =
        ap (λ (c : List ℕ). point_at c k) joined_written
        ∙ says_point _ _ _ joined_pair joined_number (joined_faultless w) joined_own joined_fits joined_small k l

    joined_points : SamePoints (joined_sheet a b) a
    joined_points =
        record {
          version = version_joined;
          points = λ e k l. point_joined k (rw (second_count (version_in a) (sym version_joined ∙ e)) l);
        }

    pair_joined : (i : ℕ) → i < pairs_together a b → pair_at (joined_sheet a b) i ≡ joined_pair i
    pair_joined i l =
        ap (λ (c : List ℕ). pair_at c i) joined_written
        ∙ says_pair _ _ _ joined_pair joined_number (joined_faultless w) joined_own joined_fits joined_small i l

    number_joined : (j : ℕ) → j < pairs_together a b → shuffle_at (joined_sheet a b) (pairs_in (joined_sheet a b)) j ≡ joined_number j
    number_joined j l =
        ap₂ (λ (c : List ℕ) (n : ℕ). shuffle_at c n j) joined_written pairs_joined
        ∙ says_number _ _ _ joined_pair joined_number (joined_faultless w) joined_own joined_fits joined_small j l

    joined_contains : Contains a b (joined_sheet a b)
    joined_contains =
        record {
          first_points = joined_points;
          second_points = same_through joined_points w.same;
          many = pairs_joined;
          first_pairs = λ i l. pair_joined i (omega arith) ∙ first_pair_lem i l;
          second_pairs = λ j l. pair_joined (pairs_in a + j) (omega arith) ∙ second_pair j l;
          first_numbers = λ i l. number_joined i (omega arith) ∙ first_number i l;
          second_numbers = λ j l. number_joined (pairs_in a + j) (omega arith) ∙ second_number j l;
        }

-- ## With no pairs on one side it is the other sheet

abbrev nobody : ℕ → List ℕ → Pool
nobody v points = record { version = v; points = points; pairs = []; shuffle = [] }

empty_pool : (a : List ℕ) → pairs_in a ≡ 0 → pool_of a ≡ nobody (version_in a) (table (point_count (version_in a)) (point_at a))
unfolding pool_of table
empty_pool a e =
    let e1 : table (pairs_in a) (pair_at a) ≡ [] = rw e in
    let e2 : table (pairs_in a) (shuffle_at a (pairs_in a)) ≡ [] = rw e in
    λ k. record { version = version_in a; points = table (point_count (version_in a)) (point_at a); pairs = e1 k; shuffle = e2 k }

nobody_first : (v : ℕ) (points : List ℕ) (q : Pool) → v ≡ q.version → points ≡ q.points → joined_pool (nobody v points) q ≡ q
unfolding joined_pool
nobody_first v points q h g =
    let e : map (λ v. v + 0) q.shuffle ≡ q.shuffle =
    ap (λ (f : ℕ → ℕ). map f q.shuffle) (λ k v. add-zero v k) ∙ map-id q.shuffle in
    λ k. record { version = h k; points = g k; pairs = q.pairs; shuffle = e k }

nobody_second : (p : Pool) (v : ℕ) (points : List ℕ) → joined_pool p (nobody v points) ≡ p
unfolding joined_pool
nobody_second p v points =
    λ k. record { version = p.version; points = p.points; pairs = append-nil p.pairs k; shuffle = append-nil p.shuffle k }

module _ (a b : List ℕ) (ha : EntriesBelow 256 a) (hb : EntriesBelow 256 b) (w : Joinable a b) where
  pub is_joined : Joined a b (joined_sheet a b)
  unfolding joined_sheet pool_of
  is_joined =
      record {
        accepted = sheet_joined a b ha hb w;
        contains = joined_contains a b ha hb w;
        first_empty =
            λ e.
            ap sheet_of
            (ap (λ (p : Pool). joined_pool p (pool_of b)) (empty_pool a e)
            ∙ nobody_first (version_in a) _ (pool_of b) w.same.version (same_lists a b w.same))
            ∙ sheet_back b hb w.second;
        second_empty =
            λ e.
            ap sheet_of (ap (joined_pool (pool_of a)) (empty_pool b e) ∙ nobody_second (pool_of a) _ _) ∙ sheet_back a ha w.first;
      }

-- ## Three sheets

-- raised by n and then by m is raised by both
raised_twice : (n m : ℕ) (s : List ℕ) → map (λ v. v + (m + n)) s ≡ map (λ v. v + m) (map (λ v. v + n) s)
raised_twice n m s =
    ap (λ (f : ℕ → ℕ). map f s) (λ k v. (let e : v + (m + n) ≡ v + n + m = omega arith in e) k) ∙ sym (map-map (λ v. v + m) (λ v. v + n) s)

joined_three : (p q r : Pool) → joined_pool (joined_pool p q) r ≡ joined_pool p (joined_pool q r)
unfolding joined_pool
joined_three p q r =
    let n = length p.pairs in
    let m = length q.pairs in
    let e : (p.shuffle ++ map (λ v. v + n) q.shuffle) ++ map (λ v. v + length (p.pairs ++ q.pairs)) r.shuffle
    ≡ p.shuffle ++ map (λ v. v + n) (q.shuffle ++ map (λ v. v + m) r.shuffle) =
    rw (length-append, map-append, append_assoc, raised_twice m n r.shuffle) refl in
    λ k. record { version = p.version; points = p.points; pairs = append_assoc p.pairs q.pairs r.pairs k; shuffle = e k }

-- no pair of a joined sheet has the id of a pair of c, and none of c that of a joined sheet's
module _ (a b c : List ℕ) (ha : EntriesBelow 256 a) (hb : EntriesBelow 256 b) (w : Joinable a b) where
  id_joined : (i : ℕ) → i < pairs_in a → (pair_at (joined_sheet a b) i).id ≡ (pair_at a i).id
  id_joined i l = ap (λ (q : Pair). q.id) ((joined_contains a b ha hb w).first_pairs i l)

  id_joined_second : (j : ℕ) → j < pairs_in b → (pair_at (joined_sheet a b) (pairs_in a + j)).id ≡ (pair_at b j).id
  id_joined_second j l = ap (λ (q : Pair). q.id) ((joined_contains a b ha hb w).second_pairs j l)

  joined_not_shared : NoSharedId a c → NoSharedId b c → NoSharedId (joined_sheet a b) c
  joined_not_shared f g i j k l =
      below_add {P = λ i. (pair_at (joined_sheet a b) i).id ≡ (pair_at c j).id → ⊥} (pairs_in a) (pairs_in b)
      (λ i m e. f i j m l (sym (id_joined i m) ∙ e))
      (λ i m e. g i j m l (sym (id_joined_second i m) ∙ e)) i (rw (pairs_joined a b ha hb w) at k)

  not_shared_joined : NoSharedId c a → NoSharedId c b → NoSharedId c (joined_sheet a b)
  not_shared_joined f g i j k l =
      below_add {P = λ j. (pair_at c i).id ≡ (pair_at (joined_sheet a b) j).id → ⊥} (pairs_in a) (pairs_in b)
      (λ j m e. f i j k m (e ∙ id_joined j m))
      (λ j m e. g i j k m (e ∙ id_joined_second j m)) j (rw (pairs_joined a b ha hb w) at l)

pub joined_in_any_grouping : JoinedInAnyGrouping
unfolding joined_sheet
joined_in_any_grouping a b c ha hb hc w v apart few =
    record {
      first_two =
          record {
            first = sheet_joined a b ha hb w;
            second = v.second;
            same = same_through (joined_points a b ha hb w) (same_through w.same v.same);
            apart = joined_not_shared a b c ha hb w apart v.apart;
            few = omega (arith, pairs_joined a b ha hb w);
          };
      last_two =
          record {
            first = w.first;
            second = sheet_joined b c hb hc v;
            same = same_through w.same (same_back (joined_points b c hb hc v));
            apart = not_shared_joined b c a hb hc v w.apart apart;
            few = omega (arith, pairs_joined b c hb hc v);
          };
      same =
          ap sheet_of
          (ap (λ (p : Pool). joined_pool p (pool_of c)) (pool_joined a b ha hb w)
          ∙ joined_three (pool_of a) (pool_of b) (pool_of c)
          ∙ sym (ap (joined_pool (pool_of a)) (pool_joined b c hb hc v)));
    }
