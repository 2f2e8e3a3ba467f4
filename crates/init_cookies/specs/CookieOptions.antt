-- Init Cookies among the options of a packet (RFC 4340, section 8.1.4).
use Rattle.std.specs.Prelude.{ℕ, ◌==◌, nat_le, false, List, [], ◌∷◌, ◌++◌, length, Option, Result, Ok, Err, if◌then◌else◌, slice_get}
use Rattle.dccp_options.specs.Grammar.{Entry}
use Rattle.dccp_options.specs.Kinds.{init_cookie}
use Rattle.dccp_options.specs.Written.{spelled}
use Rattle.dccp_options.specs.declared.option.OptFault.{OptFault}

-- the data of an item of the list, if it is an Init Cookie
abbrev pub cookie_in : Result Entry OptFault → List (List ℕ)
cookie_in (Err fault) = []
cookie_in (Ok entry) = if entry.kind == init_cookie then entry.body ∷ [] else []

-- the data of the Init Cookies, in their order
abbrev pub cookie_options : List (Result Entry OptFault) → List (List ℕ)
cookie_options [] = []
cookie_options (item ∷ rest) = cookie_in item ++ cookie_options rest

-- the data of the first
abbrev pub first_cookie : List (Result Entry OptFault) → Option (List ℕ)
first_cookie items = slice_get (cookie_options items) 0

-- what a client returns of the Init Cookies of a Response, as options: its cookie if there is only one, else none (own)
abbrev pub one_cookie : List (List ℕ) → List ℕ
one_cookie (body ∷ []) = if nat_le (length body) 253 then spelled false init_cookie body else []
one_cookie _ = []
