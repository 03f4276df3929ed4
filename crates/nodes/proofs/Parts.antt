-- What the plans of the edits keep: parts of the base, as they are. Assumes nothing.
use Rattle.std.proofs.Common.{ℕ, zero, suc, ◌-◌, ltb, leb}
use Rattle.std.proofs.lemmas.Bool.{cond_both}
use Rattle.flexlist.specs.Building.{Plan}
use Rattle.flexlist.specs.Nodes.{leaves}
use Rattle.flexlist.specs.Laid.{Laid, last, leaf, fork, plain, Part, whole, in_rest, in_below, in_after, KeptParts}
use Rattle.nodes.specs.Changing.{change_at}
use Rattle.nodes.specs.Cutting.{ends_at, left_at, right_at, cut_at, insert_at}
use Rattle.nodes.specs.Removing.{led_by, joined_last, joined_leaf, joined_fork, joined, remove_at}

pub part_rest : {e a : ℕ} {t base : Laid} → Part (leaf e a t) base → Part t base
part_rest whole = in_rest whole
part_rest (in_rest h) = in_rest (part_rest h)
part_rest (in_below h) = in_below (part_rest h)
part_rest (in_after h) = in_after (part_rest h)

pub part_below : {e m : ℕ} {x y base : Laid} → Part (fork e m x y) base → Part x base
part_below whole = in_below whole
part_below (in_rest h) = in_rest (part_below h)
part_below (in_below h) = in_below (part_below h)
part_below (in_after h) = in_after (part_below h)

pub part_after : {e m : ℕ} {x y base : Laid} → Part (fork e m x y) base → Part y base
part_after whole = in_after whole
part_after (in_rest h) = in_rest (part_after h)
part_after (in_below h) = in_below (part_after h)
part_after (in_after h) = in_after (part_after h)

module _ (base : Laid) where
  pub change_keeps : (n : ℕ) (t : Laid) (p : ℕ) → Part t base → KeptParts base (change_at n t p)
  unfolding change_at
  change_keeps n (last e a) p h = tt
  change_keeps n (leaf e a t) zero h = part_rest h
  change_keeps n (leaf e a t) (suc p) h = change_keeps n t p (part_rest h)
  change_keeps n (fork e m x y) p h =
      cond_both (ltb p (leaves (plain x))) _ _ (KeptParts base)
      (λ _. (change_keeps n x p (part_below h), part_after h))
      (λ _. (part_below h, change_keeps n y (p - leaves (plain x)) (part_after h)))

  pub left_keeps : (t : Laid) (p : ℕ) → Part t base → KeptParts base (left_at t p)
  unfolding left_at
  left_keeps (last e a) p h = h
  left_keeps (leaf e a t) zero h = tt
  left_keeps (leaf e a t) (suc p) h = cond_both (ends_at t p) _ _ (KeptParts base) (λ _. h) (λ _. left_keeps t p (part_rest h))
  left_keeps (fork e m x y) p h =
      cond_both (ltb p (leaves (plain x))) _ _ (KeptParts base)
      (λ _. left_keeps x p (part_below h))
      (λ _. cond_both (ends_at y (p - leaves (plain x))) _ _ (KeptParts base) (λ _. h) (λ _. (part_below h, left_keeps y (p - leaves (plain x)) (part_after h))))

  pub right_keeps : (n : ℕ) (t : Laid) (p : ℕ) → Part t base → KeptParts base (right_at n t p)
  unfolding right_at
  right_keeps n (last e a) p h = tt
  right_keeps n (leaf e a t) zero h = part_rest h
  right_keeps n (leaf e a t) (suc p) h = right_keeps n t p (part_rest h)
  right_keeps n (fork e m x y) p h =
      cond_both (ltb p (leaves (plain x))) _ _ (KeptParts base)
      (λ _. (right_keeps n x p (part_below h), part_after h))
      (λ _. right_keeps n y (p - leaves (plain x)) (part_after h))

  pub cut_keeps : (n k : ℕ) (t : Laid) (p : ℕ) → Part t base → KeptParts base (cut_at n k t p)
  unfolding cut_at
  cut_keeps n k t p h = (left_keeps t p h, right_keeps n t p h)

  pub insert_keeps : (n k : ℕ) (t : Laid) (p : ℕ) → Part t base → KeptParts base (insert_at n k t p)
  unfolding insert_at
  insert_keeps n zero (last e a) p h = tt
  insert_keeps n (suc k) (last e a) p h = cut_keeps n (suc k) (last e a) p h
  insert_keeps n zero (leaf e a t) zero h = part_rest h
  insert_keeps n zero (leaf e a t) (suc p) h = insert_keeps n zero t p (part_rest h)
  insert_keeps n (suc k) (leaf e a t) p h = cut_keeps n (suc k) (leaf e a t) p h
  insert_keeps n k (fork e m x y) p h =
      cond_both (ltb p (leaves (plain x))) _ _ (KeptParts base)
      (λ _. cond_both (leb m k) _ _ (KeptParts base) (λ _. cut_keeps n k (fork e m x y) p h) (λ _. (insert_keeps n k x p (part_below h), part_after h)))
      (λ _. cond_both (ltb m k) _ _ (KeptParts base) (λ _. cut_keeps n k (fork e m x y) p h) (λ _. (part_below h, insert_keeps n k y (p - leaves (plain x)) (part_after h))))

  pub led_keeps : (n : ℕ) (t : Laid) → Part t base → KeptParts base (led_by n t)
  unfolding led_by
  led_keeps n (last e a) h = tt
  led_keeps n (leaf e a t) h = part_rest h
  led_keeps n (fork e m x y) h = (led_keeps n x (part_below h), part_after h)

  joined_last_keeps : (e a : ℕ) (t : Laid) → Part (last e a) base → Part t base → KeptParts base (joined_last e a t)
  unfolding joined_last
  joined_last_keeps e a (last f j) h k = h
  joined_last_keeps e a (leaf f j t) h k = part_rest k
  joined_last_keeps e a (fork f n u v) h k = (joined_last_keeps e a u h (part_below k), part_after k)

  joined_leaf_keeps : (e a : ℕ) (s : Laid) (go : Laid → Plan Laid) → ((t : Laid) → Part t base → KeptParts base (go t)) → (t : Laid) → Part (leaf e a s) base → Part t base → KeptParts base (joined_leaf e a s go t)
  unfolding joined_leaf
  joined_leaf_keeps e a s go more (last f j) h k = h
  joined_leaf_keeps e a s go more (leaf f j t) h k = more (leaf f j t) k
  joined_leaf_keeps e a s go more (fork f n u v) h k = (joined_leaf_keeps e a s go more u h (part_below k), part_after k)

  joined_fork_keeps : (e m : ℕ) (r s : Laid) (go : Laid → Plan Laid) → ((t : Laid) → Part t base → KeptParts base (go t)) → (t : Laid) → Part (fork e m r s) base → Part t base → KeptParts base (joined_fork e m r s go t)
  unfolding joined_fork
  joined_fork_keeps e m r s go more (last f j) h k = h
  joined_fork_keeps e m r s go more (leaf f j t) h k = (part_below h, more (leaf f j t) k)
  joined_fork_keeps e m r s go more (fork f n u v) h k =
      cond_both (ltb m n) _ _ (KeptParts base)
      (λ _. (joined_fork_keeps e m r s go more u h (part_below k), part_after k))
      (λ _. (part_below h, more (fork f n u v) k))

  pub joined_keeps : (s t : Laid) → Part s base → Part t base → KeptParts base (joined s t)
  unfolding joined
  joined_keeps (last e a) t h k = joined_last_keeps e a t h k
  joined_keeps (leaf e a s) t h k = joined_leaf_keeps e a s (joined s) (λ t. joined_keeps s t (part_rest h)) t h k
  joined_keeps (fork e m r s) t h k = joined_fork_keeps e m r s (joined s) (λ t. joined_keeps s t (part_after h)) t h k

  pub remove_keeps : (t : Laid) (p : ℕ) → Part t base → KeptParts base (remove_at t p)
  unfolding remove_at
  remove_keeps (last e a) p h = h
  remove_keeps (leaf e a t) p h = cond_both (ltb 1 p) _ _ (KeptParts base) (λ _. remove_keeps t (p - 1) (part_rest h)) (λ _. led_keeps a t (part_rest h))
  remove_keeps (fork e m x y) p h =
      cond_both (ltb p (leaves (plain x))) _ _ (KeptParts base)
      (λ _. (remove_keeps x p (part_below h), part_after h))
      (λ _. cond_both (ltb (leaves (plain x)) p) _ _ (KeptParts base)
      (λ _. (part_below h, remove_keeps y (p - leaves (plain x)) (part_after h)))
      (λ _. joined_keeps x y (part_below h) (part_after h)))
