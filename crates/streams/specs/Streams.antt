-- What a program reads of its input and writes to its output, where the bytes of the two are known. Assumes nothing.
use Rattle.std.specs.Prelude.{◌≡◌, ◌⊎◌, ℕ, ◌<◌, ◌≤◌, List, length, take, Option, None, Some, IfSome}
use Rattle.std.specs.Io.KnownBytes.{Keeps, Appends, Consumes}

-- ---- reading: left and left' are what an input has before and after

-- the first of some bytes: all, or so many
unfoldable pub first : Option ℕ → List ℕ → List ℕ
first None xs = xs
first (Some n) xs = take n xs

-- these bytes were read from the front; where there is a limit, no more than that
pub record Front (limit : Option ℕ) (left left' : Option (List ℕ)) (bytes : List ℕ) : Type 0 where
  pub few : IfSome limit (λ n. length bytes ≤ n)
  pub gone : Consumes left left' bytes

-- some bytes were read from the front
pub record SomeFront (limit : Option ℕ) (left left' : Option (List ℕ)) : Type 0 where
  pub bytes : List ℕ
  pub front : Front limit left left' bytes

-- these bytes were read: all that there were; where there is a limit, the first so many
pub record First (limit : Option ℕ) (left left' : Option (List ℕ)) (bytes : List ℕ) : Type 0 where
  pub front : Front limit left left' bytes
  pub whole : IfSome left (λ xs. bytes ≡ first limit xs)

-- ---- writing: held and held' are what an output has before and after

-- a beginning of the text was written, and not the whole
pub record Begins (held held' : Option (List ℕ)) (text : List ℕ) : Type 0 where
  pub count : ℕ
  pub short : count < length text
  pub added : Appends held held' (take count text)

-- ---- a program. Says bytes text: the text is what it says to the bytes that it reads

module _ (limit : Option ℕ) (Says : List ℕ → List ℕ → Type 0) (left left' held held' : Option (List ℕ)) where
  -- the first bytes were read, and their text was written
  pub record Answers : Type 0 where
    pub bytes : List ℕ
    pub read : First limit left left' bytes
    pub text : List ℕ
    pub says : Says bytes text
    pub added : Appends held held' text

  -- some bytes were read, and nothing was written
  pub record Silent : Type 0 where
    pub read : SomeFront limit left left'
    pub kept : Keeps held held'

  -- the first bytes were read, and a beginning of their text was written, not the whole
  pub record Cut : Type 0 where
    pub bytes : List ℕ
    pub read : First limit left left' bytes
    pub text : List ℕ
    pub says : Says bytes text
    pub begins : Begins held held' text

  -- what an error leaves
  abbrev pub BreaksOff : Type 0
  BreaksOff = Silent ⊎ Cut
