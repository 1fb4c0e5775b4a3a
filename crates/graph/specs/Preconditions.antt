-- What the steps of building ask of their arguments. Assumes nothing.
use Rattle.std.specs.Prelude.{ℕ, ◌*◌, ◌≤◌, ◌<◌, List, length, get_or}
use Rattle.pool.specs.Points.{Points}
use Rattle.pool.specs.Tables.{Fields}
use Rattle.pool.specs.Faultless.{SoundPoints}
use Rattle.graph.specs.Graph.{Graph}

-- row i of n, in a table that n rows of n fit
pub record Row (i n : ℕ) (t : List ℕ) : Type 0 where
  pub inside : i < n
  pub few : n ≤ 200
  pub fits : n * n ≤ length t

-- what M is made of, of n pairs, with blood groups 0 to 3
pub record ReadableForM (n : ℕ) (donor_blood patient_blood donor_antigens patient_antibodies : List ℕ) : Type 0 where
  pub in_donor_blood : n ≤ length donor_blood
  pub in_patient_blood : n ≤ length patient_blood
  pub in_donor_antigens : n ≤ length donor_antigens
  pub in_patient_antibodies : n ≤ length patient_antibodies
  pub donor_group : (i : ℕ) → i < n → get_or donor_blood i 0 ≤ 3
  pub patient_group : (j : ℕ) → j < n → get_or patient_blood j 0 ≤ 3

-- what W is made of
pub record ReadableForW (n : ℕ) (donor_age patient_age donor_antigens patient_antigens : List ℕ) : Type 0 where
  pub in_donor_age : n ≤ length donor_age
  pub in_patient_age : n ≤ length patient_age
  pub in_donor_antigens : n ≤ length donor_antigens
  pub in_patient_antigens : n ≤ length patient_antigens

-- both, tables that n rows of n fit, and points whose sums fit 16 bits; the ids play no part
pub record Buildable (q : Points) (n : ℕ) (f : Fields) (g : Graph) : Type 0 where
  pub few : n ≤ 200
  pub for_m : ReadableForM n f.donor_blood f.patient_blood f.donor_antigens f.patient_antibodies
  pub for_w : ReadableForW n f.donor_age f.patient_age f.donor_antigens f.patient_antigens
  pub in_compatibilities : n * n ≤ length g.compatibilities
  pub in_weights : n * n ≤ length g.weights
  pub points : SoundPoints q
