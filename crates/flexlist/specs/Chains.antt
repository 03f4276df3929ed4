-- The edits that led to a version, done anew on the empty one. Assumes nothing.
use Rattle.std.specs.Prelude.{◌≡◌, ℕ, suc, cond, List, [], ◌∷◌, length, ◌==◌}
use Rattle.flexlist.specs.Edits.{Item, Edit, base_of, done, list_of}

module _ {R : Type 0} where
  -- The chain of version v, the newest first: the edit that gave it, with the identity of a block that it makes, and then its base's chain. Version 0 has
  -- none.
  abbrev pub chain_of : List (Edit R) → ℕ → List (ℕ × Edit R)
  chain_of [] v = []
  chain_of (e ∷ es) v = cond (v == suc (length es)) ((suc (length es), e) ∷ chain_of es (base_of e)) (chain_of es v)

  -- a chain done on the empty version
  abbrev pub replayed : List (ℕ × Edit R) → List (Item R)
  replayed [] = []
  replayed (x ∷ xs) = done x.0 x.1 (replayed xs)

-- the edits of a version's chain, done on the empty version, give the version's list
abbrev pub ChainsReplayed : Type 0 → Type 0
ChainsReplayed R = (es : List (Edit R)) (v : ℕ) → list_of es v ≡ replayed (chain_of es v)
