-- Laws of `specs/Digits.antt`. Assumes nothing.
use mathlib.Core.Path.{◌≡◌, refl, sym, ap, ap₂, ◌∙◌}
use mathlib.Core.List.{List, [], ◌∷◌, ◌++◌}
use Prim.Native.Nat.{ℕ, zero, suc, ◌+◌, ◌*◌, ◌/◌, ◌%◌, ◌^◌, ◌≤◌, ◌<◌}
use native.Mathlib.Nat.{div-add-mod', div-lt_iff_lt-mul, pow-suc, zero-add, add-zero}
use native.Mathlib.Numerals.{add-one}
use native.Mathlib.Omega.{arith}
use lib.Arith.{digits_lt, digits_div, digits_mod}
use lib.Dec.{lit<}
use lib.ListN.{length, get_or, drop, length-append, length-drop, get_or-append}
use lib.Seq.{get_or-drop, get_or-take, get_or_at, take-suc}
use Rattle.laws.specs.Digits.{big_endian, bytes}
use Rattle.laws.proofs.Lists.{part}

pub length-bytes : (k x : ℕ) → length (bytes k x) ≡ k
unfolding bytes
length-bytes zero x = refl
length-bytes (suc k) x = length-append (bytes k (x / 256)) (x % 256 ∷ []) ∙ add-one (length (bytes k (x / 256))) ∙ ap suc (length-bytes k (x / 256))

pub big_endian_lt : (b : List ℕ) (o k : ℕ) → ((i : ℕ) → get_or b i 0 < 256) → big_endian k b o < 256 ^ k
unfolding big_endian
big_endian_lt b o zero h = lit< tt
big_endian_lt b o (suc k) h = rw pow-suc (digits_lt (big_endian_lt b o k h) (h (o + k)))

-- a number of one byte is that byte
pub big_endian-one : (b : List ℕ) (o : ℕ) → big_endian 1 b o ≡ get_or b o 0
unfolding big_endian
big_endian-one b o = rw (add-zero, zero-add)

-- a turn of a loop that reads a number
pub big_endian_more : (k : ℕ) (b : List ℕ) (o : ℕ) → big_endian (k + 1) b o ≡ big_endian k b o * 256 + get_or b (o + k) 0
unfolding big_endian
big_endian_more k b o = ap (λ (n : ℕ). big_endian n b o) (add-one k)

-- the number goes by the bytes it stands in, and no others
pub big_endian_local : (k : ℕ) (b c : List ℕ) (o p : ℕ) → ((i : ℕ) → i < k → get_or b (o + i) 0 ≡ get_or c (p + i) 0) → big_endian k b o ≡ big_endian k c p
unfolding big_endian
big_endian_local zero b c o p h = refl
big_endian_local (suc k) b c o p h =
    ap₂ (λ (x y : ℕ). x * 256 + y) (big_endian_local k b c o p (λ i l. h i (omega arith))) (h k (omega arith))

big_endian-bytes : (k x : ℕ) → x < 256 ^ k → big_endian k (bytes k x) 0 ≡ x
unfolding big_endian bytes
big_endian-bytes zero x h =
    let l : x < 1 = h in
    omega arith
big_endian-bytes (suc k) x h =
    let l : x / 256 < 256 ^ k = (div-lt_iff_lt-mul (lit< tt)).1 (rw pow-suc at h) in
    ap₂ (λ (y z : ℕ). y * 256 + z)
    (big_endian_local k (bytes k (x / 256) ++ (x % 256 ∷ [])) (bytes k (x / 256)) 0 0
    (λ i s. get_or-append (bytes k (x / 256)) (x % 256 ∷ []) 0 (0 + i) (rw (length-bytes, zero-add) s))
    ∙ big_endian-bytes k (x / 256) l)
    (get_or_at (bytes k (x / 256)) (x % 256) [] 0 (0 + k) (length-bytes k (x / 256) ∙ sym (zero-add k)))
    ∙ div-add-mod' x 256

-- read where it was written
pub big_endian_at : (k : ℕ) (b : List ℕ) (o x : ℕ) → part b o k ≡ bytes k x → x < 256 ^ k → big_endian k b o ≡ x
unfolding part
big_endian_at k b o x e h =
    big_endian_local k b (bytes k x) o 0
    (λ i l.
    sym (get_or-drop o b i 0)
    ∙ sym (get_or-take k (drop o b) i 0 l)
    ∙ ap (λ (c : List ℕ). get_or c i 0) e
    ∙ ap (λ (j : ℕ). get_or (bytes k x) j 0) (sym (zero-add i)))
    ∙ big_endian-bytes k x h

-- written where it was read
pub bytes-big_endian : (k : ℕ) (b : List ℕ) (o : ℕ) → ((i : ℕ) → get_or b i 0 < 256) → o + k ≤ length b → bytes k (big_endian k b o) ≡ part b o k
unfolding big_endian bytes part
bytes-big_endian zero b o h l = refl
bytes-big_endian (suc k) b o h l =
    ap₂ (λ (x y : ℕ). bytes k x ++ (y ∷ [])) (digits_div (big_endian k b o) (h (o + k))) (digits_mod (big_endian k b o) (h (o + k)))
    ∙ ap₂ (λ (x : List ℕ) (y : ℕ). x ++ (y ∷ [])) (bytes-big_endian k b o h (omega arith)) (sym (get_or-drop o b k 0))
    ∙ sym (take-suc (drop o b) k 0 (simp length-drop (omega arith)))
