-- What has none of the faults, and what each fault is, said without looking for a first one. Assumes nothing.
use Rattle.std.specs.Prelude.{ℕ, suc, ◌+◌, ◌≤◌, ◌<◌, ◌≡◌, length}
use Rattle.laws.specs.Below.{Some}
use Rattle.pool.specs.Pool.{Pair}
use Rattle.pool.specs.Points.{Points}
use Rattle.pool.specs.Tables.{item_in}
use Rattle.pool.specs.Faultless.{SoundPoints, InRange, Unlike, FieldsHold}
use Rattle.weighing.specs.Promises.{Fit, entry_at}
use Rattle.live.specs.Live.{Live, weighed_by, pair_of}

-- ## What both calls ask of the pool

-- every table holds the count of pairs, and that of the points six
pub record TablesKeep (l : Live) : Type 0 where
  pub fields : FieldsHold l.count l.fields
  pub graph : Fit l.count l.graph
  pub suitable : l.count ≤ length l.suitable
  pub points : 6 ≤ length l.points

-- k of the numbers below n have P, and the others don't: with no test that decides it, and no sum
pub data HowMany (P : ℕ → Type 0) : ℕ → ℕ → Type 0 where
  empty : HowMany P 0 0
  counted : (n k : ℕ) → HowMany P n k → P n → HowMany P (suc n) (suc k)
  passed : (n k : ℕ) → HowMany P n k → (P n → ⊥) → HowMany P (suc n) k

-- the number stored with patient j "equals the ones in that patient's column of M", whatever M is: so many entries of the column are 1
abbrev pub TrueNumber : Live → ℕ → Type 0
TrueNumber l j = HowMany (λ i. entry_at l.graph.compatibilities l.count i j ≡ 1) l.count (item_in l.suitable j)

abbrev pub TrueNumbers : Live → Type 0
TrueNumbers l = (j : ℕ) → j < l.count → TrueNumber l j

pub record Kept (l : Live) : Type 0 where
  pub few : l.count ≤ 200
  pub keep : TablesKeep l
  pub sound : SoundPoints (weighed_by l)
  pub numbers : TrueNumbers l

-- fault k of it, and none that is looked for before
pub data KeptFault (l : Live) : ℕ → Type 0 where
  too_many_pairs : 200 < l.count → KeptFault l 4
  table_too_short : l.count ≤ 200 → (TablesKeep l → ⊥) → KeptFault l 9
  wrong_points : l.count ≤ 200 → TablesKeep l → (SoundPoints (weighed_by l) → ⊥) → KeptFault l 14
  wrong_number : l.count ≤ 200 → TablesKeep l → SoundPoints (weighed_by l) → Some l.count (λ j. TrueNumber l j → ⊥) → KeptFault l 10

-- ## Starting, with a table of the points that has so many entries

pub data StartFault (given : Points) (points : ℕ) : ℕ → Type 0 where
  wrong_points : (SoundPoints given → ⊥) → StartFault given points 14
  table_too_short : SoundPoints given → points < 6 → StartFault given points 9

-- ## Registering

-- of the stored pairs and the new one
pub record AllInRange (p : Pair) (l : Live) : Type 0 where
  pub stored : (i : ℕ) → i < l.count → InRange (pair_of l i)
  pub new : InRange p

-- none of the stored pairs has this id
abbrev pub NoneHas : ℕ → Live → Type 0
NoneHas id l = (j : ℕ) → j < l.count → (pair_of l j).id ≡ id → ⊥

pub record AllUnlike (p : Pair) (l : Live) : Type 0 where
  pub stored : Unlike l.count (pair_of l)
  pub new : NoneHas p.id l

-- one pair more fits every table
pub record OneMoreFits (l : Live) : Type 0 where
  pub fields : FieldsHold (l.count + 1) l.fields
  pub graph : Fit (l.count + 1) l.graph
  pub suitable : l.count + 1 ≤ length l.suitable

pub record Registrable (p : Pair) (l : Live) : Type 0 where
  pub kept : Kept l
  pub in_range : AllInRange p l
  pub unlike : AllUnlike p l
  pub room : l.count < 200
  pub more : OneMoreFits l

pub data RegisterFault (p : Pair) (l : Live) : ℕ → Type 0 where
  kept : (k : ℕ) → KeptFault l k → RegisterFault p l k
  out_of_range : Kept l → (AllInRange p l → ⊥) → RegisterFault p l 6
  repeated_id : Kept l → AllInRange p l → (AllUnlike p l → ⊥) → RegisterFault p l 7
  full : Kept l → AllInRange p l → AllUnlike p l → l.count ≡ 200 → RegisterFault p l 12
  no_room : Kept l → AllInRange p l → AllUnlike p l → l.count < 200 → (OneMoreFits l → ⊥) → RegisterFault p l 9

-- ## Withdrawing

pub record Withdrawable (id : ℕ) (l : Live) : Type 0 where
  pub kept : Kept l
  pub there : Some l.count (λ i. (pair_of l i).id ≡ id)

pub data WithdrawFault (id : ℕ) (l : Live) : ℕ → Type 0 where
  kept : (k : ℕ) → KeptFault l k → WithdrawFault id l k
  unknown_id : Kept l → NoneHas id l → WithdrawFault id l 16
