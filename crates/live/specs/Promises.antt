-- What is promised of a live pool, as statements: the proofs are in `proofs/`, and the contracts carry `StartsRightly`, `RegistersRightly` and
-- `WithdrawsRightly`. Assumes nothing.
use Rattle.std.specs.Prelude.{ℕ, suc, ◌+◌, ◌*◌, ◌≤◌, ◌<◌, ◌≡◌, ◌↔◌, List, map, length, take}
use Rattle.laws.specs.Below.{table, Some}
use Rattle.laws.specs.Lent.{filled}
use Rattle.refusal.specs.Answer.{finished, refused, Outcome, outcome}
use Rattle.pool.specs.Pool.{Pair}
use Rattle.pool.specs.Points.{Points, registry_points, points_by}
use Rattle.pool.specs.Sheet.{sheet_length}
use Rattle.pool.specs.Tables.{Fields, Tables, tables, item_in, field_room, filled_tables}
use Rattle.pool.specs.Calls.{head, reading, writing}
use Rattle.pool.specs.Faultless.{SoundPoints, InRange, EachOnce, TablesHold}
use Rattle.pool.specs.Promises.{TablesTyped}
use Rattle.donation.specs.Promises.{Compatible}
use Rattle.graph.specs.Graph.{Graph, graph}
use Rattle.weighing.specs.Building.{building}
use Rattle.weighing.specs.Promises.{Fit, Entries, Plannable, entry_at}
use Rattle.live.specs.Live.{Live, live, live_version, weighed_by, pair_of, pairs_of}
use Rattle.live.specs.Calls.{Beginning, in_order, starting, registering, withdrawing}
use Rattle.live.specs.Faultless.{HowMany, TrueNumbers, StartFault, Registrable, RegisterFault, OneMoreFits, Withdrawable, WithdrawFault}
use Rattle.live.specs.Lists.{Call, after, trace, held}

-- ## "Past the new count's entries nothing changes", and no table changes its length

pub record PastKept (n : ℕ) (old new : List ℕ) : Type 0 where
  pub long : length new ≡ length old
  pub past : (i : ℕ) → n ≤ i → item_in new i ≡ item_in old i

pub record FieldsPast (n : ℕ) (old new : Fields) : Type 0 where
  pub ids : PastKept n old.ids new.ids
  pub donor_blood : PastKept n old.donor_blood new.donor_blood
  pub patient_blood : PastKept n old.patient_blood new.patient_blood
  pub donor_age : PastKept n old.donor_age new.donor_age
  pub patient_age : PastKept n old.patient_age new.patient_age
  pub donor_antigens : PastKept n old.donor_antigens new.donor_antigens
  pub patient_antigens : PastKept n old.patient_antigens new.patient_antigens
  pub patient_antibodies : PastKept n old.patient_antibodies new.patient_antibodies

pub record AllPast (n : ℕ) (old new : Live) : Type 0 where
  pub points : new.points ≡ old.points
  pub fields : FieldsPast n old.fields new.fields
  pub compatibilities : PastKept (n * n) old.graph.compatibilities new.graph.compatibilities
  pub weights : PastKept (n * n) old.graph.weights new.graph.weights
  pub suitable : PastKept n old.suitable new.suitable

-- ## Starting

-- the count is 0, the first six of the table are the six given, and past them nothing changes
pub record Started (given : Points) (old new : Beginning) : Type 0 where
  pub count : new.count ≡ 0
  pub points : points_by (item_in new.points) ≡ given
  pub past : PastKept registry_points old.points new.points

pub record StartsRightly (given : Points) (old : Beginning) (o : Outcome (Unit {0}) Beginning) : Type 0 where
  pub accepts : SoundPoints given → 6 ≤ length old.points → o.answer ≡ finished tt
  pub accepted : o.answer ≡ finished tt → SoundPoints given × (6 ≤ length old.points)
  pub refuses : (k place : ℕ) → o.answer ≡ refused k place → (place ≡ 0) × StartFault given (length old.points) k × (o.lent ≡ old)
  pub started : o.answer ≡ finished tt → Started given old o.lent

-- ## Registering

-- one pair more, at the end; the others stay; M and W are those of all of them, whatever stood there, and the numbers are the ones in that M's columns
pub record Registered (p : Pair) (old new : Live) : Type 0 where
  pub count : new.count ≡ old.count + 1
  pub last : pair_of new old.count ≡ p
  pub others : (i : ℕ) → i < old.count → pair_of new i ≡ pair_of old i
  pub entries : Entries (weighed_by old) new.count new.fields new.graph
  pub numbers : TrueNumbers new
  pub past : AllPast new.count old new

pub record RegistersRightly (p : Pair) (old : Live) (o : Outcome (Unit {0}) Live) : Type 0 where
  pub accepts : Registrable p old → o.answer ≡ finished tt
  pub accepted : o.answer ≡ finished tt → Registrable p old
  pub refuses : (k place : ℕ) → o.answer ≡ refused k place → (place ≡ 0) × RegisterFault p old k × (o.lent ≡ old)
  pub registered : o.answer ≡ finished tt → Registered p old o.lent

-- ## Withdrawing

-- the place of the first pair with an id
pub record FirstWith (id : ℕ) (l : Live) (a : ℕ) : Type 0 where
  pub below : a < l.count
  pub there : (pair_of l a).id ≡ id
  pub first : (j : ℕ) → j < a → (pair_of l j).id ≡ id → ⊥

-- when a is out, what stood at the first number stands at the second
pub data Moved (a : ℕ) : ℕ → ℕ → Type 0 where
  stays : (i : ℕ) → i < a → Moved a i i
  down : (i : ℕ) → a ≤ i → Moved a (suc i) i

-- every pair but that at a, with its entries of M and W, whatever they are, stands where it moved to, and the numbers are the ones in the columns of that M
pub record WithoutIt (a : ℕ) (old new : Live) : Type 0 where
  pub count : new.count + 1 ≡ old.count
  pub pairs : (i j : ℕ) → Moved a i j → i < old.count → pair_of new j ≡ pair_of old i
  pub compatibilities : (i j h k : ℕ) → Moved a i j → Moved a h k → i < old.count → h < old.count
      → entry_at new.graph.compatibilities new.count j k ≡ entry_at old.graph.compatibilities old.count i h
  pub weights : (i j h k : ℕ) → Moved a i j → Moved a h k → i < old.count → h < old.count
      → entry_at new.graph.weights new.count j k ≡ entry_at old.graph.weights old.count i h
  pub numbers : TrueNumbers new
  pub past : AllPast new.count old new

pub record WithdrawsRightly (id : ℕ) (old : Live) (o : Outcome (Unit {0}) Live) : Type 0 where
  pub accepts : Withdrawable id old → o.answer ≡ finished tt
  pub accepted : o.answer ≡ finished tt → Withdrawable id old
  pub refuses : (k place : ℕ) → o.answer ≡ refused k place → (place ≡ 0) × WithdrawFault id old k × (o.lent ≡ old)
  pub withdrawn : o.answer ≡ finished tt → (a : ℕ) × FirstWith id old a × WithoutIt a old o.lent

-- ## "For every list of these calls from an empty pool"

-- an empty pool, in any tables: what stands in those of the fields, in M, in W and in that of the numbers is nobody's
pub record Empty (l : Live) : Type 0 where
  pub none : l.count ≡ 0
  pub points : 6 ≤ length l.points
  pub sound : SoundPoints (weighed_by l)

-- a finished start leaves one, whatever other tables are lent with it from then on, and its edges are weighed by the six given
abbrev pub StartsEmpty : Type 0
StartsEmpty =
    (given : Points) (old new : Beginning) (f : Fields) (g : Graph) (s : List ℕ) (o : Outcome (Unit {0}) Beginning)
    → StartsRightly given old o
    → o ≡ outcome (finished tt) new
    → Empty (live new.count new.points f g s) × (weighed_by (live new.count new.points f g s) ≡ given)

-- "its compatibility and weight tables are those of a sheet with these pairs and points": with any shuffle s they are written as a sheet, which reads back as
-- these points, these pairs and this shuffle, and building from what was read gives the entries of M and W that the pool l has
pub record OnASheet (l : Live) (ps : List Pair) (s out : List ℕ) (other : Tables) (g : Graph) : Type 0 where
  pub written : (writing live_version l.count (tables l.points l.fields s) out).answer ≡ finished (sheet_length live_version l.count)
  pub read :
      reading (take (sheet_length live_version l.count) (writing live_version l.count (tables l.points l.fields s) out).lent) other
      ≡ outcome (finished (head live_version l.count))
      (filled_tables
      (record {
        version = live_version;
        points = table registry_points (item_in l.points);
        pairs = ps;
        shuffle = table l.count (item_in s);
      }) other)
  pub built : (t : Tables)
      → t
      ≡ (reading (take (sheet_length live_version l.count) (writing live_version l.count (tables l.points l.fields s) out).lent) other).lent
      → building live_version l.count t.points t.fields g
      ≡ outcome (finished tt)
      (graph (filled (take (l.count * l.count) l.graph.compatibilities) g.compatibilities)
      (filled (take (l.count * l.count) l.graph.weights) g.weights))

-- so many, and no other number
abbrev pub NoOtherNumber : Type 1
NoOtherNumber = (P : ℕ → Type 0) (n k other : ℕ) → HowMany P n k → HowMany P n other → other ≡ k

-- "How many donors suit each patient", with no M: the number stored with each is that of the pairs whose donor suits, by document 01's words for compatibility
abbrev pub SuitedBySoMany : Live → Type 0
SuitedBySoMany l = (j : ℕ) → j < l.count → HowMany (λ i. Compatible (pair_of l) i j) l.count (item_in l.suitable j)

-- the pool l holds the pairs ps: the count and the first entries of the tables are theirs; M and W are what building gives, so that building changes nothing,
-- and can be planned; "it equals the ones in that patient's column of M", and so it is the number of the pairs whose donor suits that patient; and M and W are
-- those of a sheet. That the tables' entries fit their words (`TablesTyped`) is what the types of the slices give
pub record Holds (ps : List Pair) (l : Live) : Type 0 where
  pub number : l.count ≡ length ps
  pub pairs : pairs_of l ≡ ps
  pub built : building live_version l.count l.points l.fields l.graph ≡ outcome (finished tt) l.graph
  pub plannable : Plannable (weighed_by l) l.count l.graph
  pub numbers : TrueNumbers l
  pub suited : SuitedBySoMany l
  pub sheet : (s out : List ℕ) (other : Tables) (g : Graph)
      → EachOnce l.count (item_in s)
      → l.count ≤ length s
      → TablesTyped (tables l.points l.fields s)
      → sheet_length live_version l.count ≤ length out
      → TablesHold live_version l.count other
      → Fit l.count g
      → OnASheet l ps s out other g

-- tables as long as they were: the shortest of the fields', M, W and that of the numbers
pub record AsLong (old new : Live) : Type 0 where
  pub fields : field_room new.fields ≡ field_room old.fields
  pub compatibilities : length new.graph.compatibilities ≡ length old.graph.compatibilities
  pub weights : length new.graph.weights ≡ length old.graph.weights
  pub suitable : length new.suitable ≡ length old.suitable

-- what a list of calls from the pool l leaves: a pool that holds the pairs registered and not withdrawn since, with the points and the lengths of l
pub record LeftBy (calls : List Call) (l : Live) : Type 0 where
  pub holds : Holds (held (trace calls l)) (after calls l)
  pub points : (after calls l).points ≡ l.points
  pub long : AsLong l (after calls l)

abbrev pub LiveHolds : Type 0
LiveHolds = (l : Live) (calls : List Call) → Empty l → LeftBy calls l

-- the same from a finished start on, with whatever other tables: on the pool's sheet stand the six points given
abbrev pub started_with : Points → Beginning → Fields → Graph → List ℕ → Live
started_with given old f g s = live (starting given old).lent.count (starting given old).lent.points f g s

pub record FromAStart (given : Points) (old : Beginning) (f : Fields) (g : Graph) (s : List ℕ) (calls : List Call) : Type 0 where
  pub left : LeftBy calls (started_with given old f g s)
  pub points : table registry_points (item_in (after calls (started_with given old f g s)).points) ≡ in_order given
  pub weighed : weighed_by (after calls (started_with given old f g s)) ≡ given

abbrev pub StartHolds : Type 0
StartHolds =
    (given : Points) (old : Beginning) (f : Fields) (g : Graph) (s : List ℕ) (calls : List Call)
    → (starting given old).answer ≡ finished tt
    → FromAStart given old f g s calls

-- one of the pairs has this id
abbrev pub HasId : ℕ → List Pair → Type 0
HasId id ps = Some (length ps) (λ i. item_in (map (λ q. q.id) ps) i ≡ id)

-- a pair that may register: in range, of an id that none of those held has, and there is room for it
pub record Welcome (p : Pair) (ps : List Pair) (l : Live) : Type 0 where
  pub in_range : InRange p
  pub unlike : HasId p.id ps → ⊥
  pub few : length ps < 200
  pub room : OneMoreFits l

-- in such a pool a registration finishes for a pair that may register, and for no other; a withdrawal for an id that is held, and for no other
pub record AnswersBy (ps : List Pair) (l : Live) : Type 0 where
  pub registers : (p : Pair) → ((registering p l).answer ≡ finished tt) ↔ Welcome p ps l
  pub withdraws : (id : ℕ) → ((withdrawing id l).answer ≡ finished tt) ↔ HasId id ps

abbrev pub LiveAnswers : Type 0
LiveAnswers = (l : Live) (calls : List Call) → Empty l → AnswersBy (held (trace calls l)) (after calls l)

-- in such a pool neither call ever refuses 10
pub record NeitherRefusesTen (l : Live) : Type 0 where
  pub registers : (p : Pair) (place : ℕ) → (registering p l).answer ≡ refused 10 place → ⊥
  pub withdraws : (id place : ℕ) → (withdrawing id l).answer ≡ refused 10 place → ⊥

abbrev pub NeverTen : Type 0
NeverTen = (l : Live) (calls : List Call) → Empty l → NeitherRefusesTen (after calls l)

-- "an id withdrawn may register again"
abbrev pub MayReturn : Type 0
MayReturn =
    (l : Live) (calls : List Call) (id : ℕ) (p : Pair)
    → Empty l
    → (withdrawing id (after calls l)).answer ≡ finished tt
    → InRange p
    → p.id ≡ id
    → (registering p (withdrawing id (after calls l)).lent).answer ≡ finished tt
