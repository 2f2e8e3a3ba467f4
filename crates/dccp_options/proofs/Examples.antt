-- The definitions, computed on examples.
use Rattle.std.proofs.Common.{◌≡◌, true, false, [], ◌∷◌, Some, None, Ok, Err, refl}
use Rattle.dccp_options.specs.declared.option.OptFault.TheVariants.{MandatoryAtEnd, MandatoryTwice}
use Rattle.dccp_options.specs.Grammar.{options_of}
use Rattle.dccp_options.specs.Vectors.{state_at, runs_of, reported}

-- a Change L after its Mandatory, then padding
change : options_of (1 ∷ 32 ∷ 4 ∷ 6 ∷ 1 ∷ 0 ∷ 0 ∷ 0 ∷ []) false
    ≡ Ok (record { place = 1; mandatory = true; kind = 32; body = 6 ∷ 1 ∷ [] }) ∷ []
change = refl

change_on_data : options_of (1 ∷ 32 ∷ 4 ∷ 6 ∷ 1 ∷ 2 ∷ 0 ∷ 0 ∷ []) true
    ≡ Ok (record { place = 5; mandatory = false; kind = 2; body = [] }) ∷ []
change_on_data = refl

at_end : options_of (0 ∷ 0 ∷ 0 ∷ 1 ∷ []) false ≡ Err MandatoryAtEnd ∷ []
at_end = refl

before_a_cut : options_of (2 ∷ 1 ∷ 32 ∷ 9 ∷ 1 ∷ 0 ∷ []) false
    ≡ Ok (record { place = 0; mandatory = false; kind = 2; body = [] }) ∷ Err MandatoryAtEnd ∷ []
before_a_cut = refl

twice : options_of (1 ∷ 0 ∷ 1 ∷ 1 ∷ 2 ∷ []) false ≡ Err MandatoryTwice ∷ []
twice = refl

too_short : options_of (2 ∷ 32 ∷ 1 ∷ 2 ∷ []) false
    ≡ Ok (record { place = 0; mandatory = false; kind = 2; body = [] }) ∷ []
too_short = refl

vector_states : state_at 100 (0 ∷ 192 ∷ 3 ∷ 64 ∷ 5 ∷ []) 94 ≡ Some 1
vector_states = refl

past_its_end : state_at 100 (0 ∷ 192 ∷ 3 ∷ 64 ∷ 5 ∷ []) 87 ≡ None
past_its_end = refl

two_vectors : reported 1 (options_of (38 ∷ 3 ∷ 1 ∷ 39 ∷ 3 ∷ 129 ∷ []) false) 281474976710655 ≡ Some 3
two_vectors = refl

runs_round_the_circle : runs_of 1 (1 ∷ 192 ∷ [])
    ≡ record { hi = 1; count = 2; state = 0 } ∷ record { hi = 281474976710655; count = 1; state = 3 } ∷ []
runs_round_the_circle = refl
