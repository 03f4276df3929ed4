-- A FlexList with the table entry of each node, and plans for such trees laid into the next entries. Assumes nothing.
use Rattle.std.specs.Prelude.{ℕ, ◌+◌}
use Rattle.flexlist.specs.Shape.{Tree}
use Rattle.flexlist.specs.Shape as flat
use Rattle.flexlist.specs.Building.{Plan, keep, new_last, new_leaf, new_fork, made}

-- the first number of each node is its entry; a leaf has its block's identity, a fork its level
pub data Laid : Type 0 where
  last : ℕ → ℕ → Laid
  leaf : ℕ → ℕ → Laid → Laid
  fork : ℕ → ℕ → Laid → Laid → Laid

-- without the entries
abbrev pub plain : Laid → Tree
plain (last e a) = flat.Tree.last a
plain (leaf e a t) = flat.Tree.leaf a (plain t)
plain (fork e m s t) = flat.Tree.fork m (plain s) (plain t)

-- the entry of the root
abbrev pub root : Laid → ℕ
root (last e a) = e
root (leaf e a t) = e
root (fork e m s t) = e

-- who leads the stretch
abbrev pub leader : Laid → ℕ
leader (last e a) = a
leader (leaf e a t) = a
leader (fork e m s t) = leader s

-- a plan that keeps laid pieces, without their entries
abbrev pub plain_plan : Plan Laid → Plan Tree
plain_plan (keep t) = keep (plain t)
plain_plan (new_last a) = new_last a
plain_plan (new_leaf a x) = new_leaf a (plain_plan x)
plain_plan (new_fork m x y) = new_fork m (plain_plan x) (plain_plan y)

-- a plan laid from the free entry u on: parts before the whole, what is below before what is after
unfoldable pub lay : Plan Laid → ℕ → Laid
lay (keep t) u = t
lay (new_last a) u = last u a
lay (new_leaf a x) u = leaf (u + made x) a (lay x u)
lay (new_fork m x y) u = fork (u + made x + made y) m (lay x u) (lay y (u + made x))

-- a part of a tree: the tree itself, or a part of what follows its leaf, or of what is below or after its fork
pub data Part (t : Laid) : Laid → Type 0 where
  whole : Part t t
  in_rest : {e a : ℕ} {s : Laid} → Part t s → Part t (leaf e a s)
  in_below : {e m : ℕ} {x y : Laid} → Part t x → Part t (fork e m x y)
  in_after : {e m : ℕ} {x y : Laid} → Part t y → Part t (fork e m x y)

-- every piece that a plan keeps is a part of the base
abbrev pub KeptParts : Laid → Plan Laid → Type 0
KeptParts base (keep t) = Part t base
KeptParts base (new_last a) = Unit {0}
KeptParts base (new_leaf a x) = KeptParts base x
KeptParts base (new_fork m x y) = KeptParts base x × KeptParts base y
