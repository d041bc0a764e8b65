-- Sums over a group: what a join of two groups does to them, and what they cannot exceed.
use Rattle.std.specs.Prelude.{◌≡◌, ◌∷◌, ◌≢◌, ◌+◌, ◌≤◌, ◌<◌}
use Rattle.kit.specs.Names.{refl, sym, ap, ap₂, cond, [], ℕ, zero, suc, zero-le, eqb, arith, le_refl, le_step, eq-eqb, ne_eqb}
use Rattle.groups.specs.Sums.{Credits, due, total, ones, size}
use Rattle.groups.specs.Groups.{at, shift}
use Rattle.groups.proofs.Tools.{by_same}

-- ---- one key

pub at_hit : {A : Type 0} (key : ℕ) (x : A) (f : ℕ → A) (i : ℕ) → i ≡ key → at key x f i ≡ x
at_hit key x f i e = rw (eq-eqb i key e)

pub at_miss : {A : Type 0} (key : ℕ) (x : A) (f : ℕ → A) (i : ℕ) → i ≢ key → at key x f i ≡ f i
at_miss key x f i d = rw (ne_eqb i key d)

pub shift_hit : (root : ℕ → ℕ) (low high i : ℕ) → root i ≡ low → shift root low high i ≡ high
shift_hit root low high i e = rw (eq-eqb (root i) low e)

pub shift_miss : (root : ℕ → ℕ) (low high i : ℕ) → root i ≢ low → shift root low high i ≡ root i
shift_miss root low high i d = rw (ne_eqb (root i) low d)

pub due_hit : (root : ℕ → ℕ) (r key v : ℕ) → root key ≡ r → due root r key v ≡ v
due_hit root r key v e = rw (eq-eqb (root key) r e)

pub due_miss : (root : ℕ → ℕ) (r key v : ℕ) → root key ≢ r → due root r key v ≡ 0
due_miss root r key v d = rw (ne_eqb (root key) r d)

-- ---- a join: the group of r goes into that of s

module _ (root : ℕ → ℕ) (r s : ℕ) (d : r ≢ s) where
  due_shift : (key v : ℕ) → due (shift root r s) s key v ≡ due root r key v + due root s key v
  due_shift key v =
      by_same (root key) r
      (λ e. rw (e, eq-eqb r r refl, eq-eqb s s refl, ne_eqb r s d) (omega arith))
      (λ e. rw (ne_eqb (root key) r e) (omega arith))

  pub total_shift : (cs : Credits) → total (shift root r s) s cs ≡ total root r cs + total root s cs
  unfolding total
  total_shift [] = refl
  total_shift (c ∷ cs) = omega (arith, due_shift c.0 c.1, total_shift cs)

module _ (root : ℕ → ℕ) (r s q : ℕ) (d : q ≢ r) (d' : q ≢ s) where
  due_shift_other : (key v : ℕ) → due (shift root r s) q key v ≡ due root q key v
  due_shift_other key v =
      by_same (root key) r
      (λ e. rw (e, eq-eqb r r refl, ne_eqb s q (λ z. d' (sym z)), ne_eqb r q (λ z. d (sym z))))
      (λ e. rw (ne_eqb (root key) r e))

  pub total_shift_other : (cs : Credits) → total (shift root r s) q cs ≡ total root q cs
  unfolding total
  total_shift_other [] = refl
  total_shift_other (c ∷ cs) = ap₂ (λ (x y : ℕ). x + y) (due_shift_other c.0 c.1) (total_shift_other cs)

-- ---- bounds

-- Each key is counted once: a group has no more keys than there are.
pub size_le : (root : ℕ → ℕ) (r n : ℕ) → size root n r ≤ n
unfolding total
size_le root r zero = zero-le
size_le root r (suc n) =
    by_same (root n) r (λ e. omega (arith, due_hit root r n 1 e, size_le root r n))
    (λ e. omega (arith, due_miss root r n 1 e, size_le root r n))

-- Every key of the list is below n.
pub data Below (n : ℕ) : Credits → Type 0 where
  none : Below n []
  more : {c : ℕ × ℕ} {cs : Credits} → c.0 < n → Below n cs → Below n (c ∷ cs)

pub below_suc : {n : ℕ} {cs : Credits} → Below n cs → Below (suc n) cs
below_suc none = none
below_suc (more h b) = more (le_step h) (below_suc b)

pub below_ones : (n : ℕ) → Below n (ones n)
below_ones zero = none
below_ones (suc n) = more (le_refl (suc n)) (below_suc (below_ones n))

-- A group that no key below n belongs to has nothing.
pub total_none : (root : ℕ → ℕ) (r n : ℕ) → ((i : ℕ) → i < n → root i ≢ r) → (cs : Credits) → Below n cs → total root r cs ≡ 0
unfolding total
total_none root r n f [] b = refl
total_none root r n f (c ∷ cs) (more h b) = omega (arith, due_miss root r c.0 c.1 (f c.0 h), total_none root r n f cs b)

-- Only the roots of the keys in the list count.
pub total_agree : (n : ℕ) (f g : ℕ → ℕ) → ((i : ℕ) → i < n → f i ≡ g i) → (r : ℕ) (cs : Credits) → Below n cs
    → total f r cs ≡ total g r cs
unfolding total
total_agree n f g e r [] b = refl
total_agree n f g e r (c ∷ cs) (more h b) =
    ap₂ (λ (x y : ℕ). x + y) (ap (λ (z : ℕ). cond (eqb z r) c.1 0) (e c.0 h)) (total_agree n f g e r cs b)
