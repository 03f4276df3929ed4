-- Edits, and the lists of blocks that a history of them comes to. Assumes nothing.
use Rattle.std.specs.Prelude.{◌≡◌, ℕ, suc, ◌<◌, ◌≤◌, cond, List, [], ◌∷◌, ◌++◌, map, length, take, drop, ◌==◌}
use Rattle.std.specs.List.{slice_get, AllByRecursion}
use Rattle.std.specs.Option.{unwrap_or}
use Rattle.flexlist.specs.Shape.{Block, block}
use Rattle.flexlist.specs.Nodes.{Distinct}

-- what a block holds: its number in the store and its row; the lead has number 0 and no reading
pub record Content (R : Type 0) : Type 0 where
  pub number : ℕ
  pub row : List R

abbrev pub lead : {R : Type 0} → Content R
lead = record { number = 0; row = [] }

-- a block of a version: an identity that no other has, its level, and what it holds
pub record Item (R : Type 0) : Type 0 where
  pub identity : ℕ
  pub level : ℕ
  pub content : Content R

-- an edit of a base version at a place: a block put in at a level, the block there given other content, the block there taken out
pub data Edit (R : Type 0) : Type 0 where
  insert : ℕ → ℕ → ℕ → Content R → Edit R
  change : ℕ → ℕ → Content R → Edit R
  removal : ℕ → ℕ → Edit R

module _ {R : Type 0} where
  abbrev pub base_of : Edit R → ℕ
  base_of (insert base place level content) = base
  base_of (change base place content) = base
  base_of (removal base place) = base

  abbrev pub place_of : Edit R → ℕ
  place_of (insert base place level content) = place
  place_of (change base place content) = place
  place_of (removal base place) = place

  -- what an edit brings, if it brings a row
  abbrev pub brought : Edit R → Content R
  brought (insert base place level content) = content
  brought (change base place content) = content
  brought (removal base place) = lead

  -- the first of some blocks with a new identity and content, and its own level
  abbrev pub first_changed : ℕ → Content R → List (Item R) → List (Item R)
  first_changed n c [] = []
  first_changed n c (x ∷ xs) = record { identity = n; level = x.level; content = c } ∷ xs

  -- what an edit makes of its base's list, where n is the identity of a block that it brings
  abbrev pub done : ℕ → Edit R → List (Item R) → List (Item R)
  done n (insert base place level content) xs = take place xs ++ (record { identity = n; level = level; content = content } ∷ drop place xs)
  done n (change base place content) xs = take place xs ++ first_changed n content (drop place xs)
  done n (removal base place) xs = take place xs ++ drop (suc place) xs

  -- The list of each version, by its number, after the edits of a history, the newest first: version 0 is the empty list, and each edit gives one more version.
  -- The identity that an edit gives is the number of edits so far, itself counted; the lead has 0.
  unfoldable pub lists : List (Edit R) → List (List (Item R))
  lists [] = [] ∷ []
  lists (e ∷ es) = lists es ++ (done (suc (length es)) e (unwrap_or (slice_get (lists es) (base_of e)) []) ∷ [])

  -- the list of one version
  abbrev pub list_of : List (Edit R) → ℕ → List (Item R)
  list_of es v = unwrap_or (slice_get (lists es) v) []

  -- what the block of an identity holds
  abbrev pub content_of : List (Edit R) → ℕ → Content R
  content_of [] i = lead
  content_of (e ∷ es) i = cond (i == suc (length es)) (brought e) (content_of es i)

  abbrev pub blocks_of : List (Item R) → List Block
  blocks_of xs = map (λ x. block x.identity x.level) xs

  abbrev pub identities_of : List (Item R) → List ℕ
  identities_of xs = map (λ x. x.identity) xs

  -- a block's identity is one of those given so far, and holds what the block holds
  pub record Known (es : List (Edit R)) (x : Item R) : Type 0 where
    pub some : 0 < x.identity
    pub given : x.identity ≤ length es
    pub holds : content_of es x.identity ≡ x.content

  -- of one version: all its blocks are known, and no two have one identity
  pub record Sound (es : List (Edit R)) (xs : List (Item R)) : Type 0 where
    pub known : AllByRecursion (Known es) xs
    pub apart : Distinct (identities_of xs)

-- every version is sound, after any history
abbrev pub HistoriesSound : Type 0 → Type 0
HistoriesSound R = (es : List (Edit R)) → (length (lists es) ≡ suc (length es)) × AllByRecursion (Sound es) (lists es)
