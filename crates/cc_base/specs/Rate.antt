-- Believed: the library's answers stand on these definitions.
-- Frame rates of caption distribution packets (SMPTE ST 334-2, cdp_header; CTA-708-E, 4.4).
use Rattle.std.specs.Prelude.{ℕ, ◌+◌, ◌-◌, ◌*◌, ◌/◌, ◌==◌, if◌then◌else◌, Option, Some, None}
use Rattle.cc_base.specs.declared.rate.Rate.{Rate}
use Rattle.cc_base.specs.declared.rate.Rate.TheVariants as rate

-- the code of a rate
abbrev pub rate_code : Rate → ℕ
rate_code rate.F23976 = 1
rate_code rate.F24 = 2
rate_code rate.F25 = 3
rate_code rate.F2997 = 4
rate_code rate.F30 = 5
rate_code rate.F50 = 6
rate_code rate.F5994 = 7
rate_code rate.F60 = 8

-- the rate of a code, if there is one
abbrev pub rate_of : ℕ → Option Rate
rate_of code =
    if code == 1 then Some rate.F23976
    else if code == 2 then Some rate.F24
    else if code == 3 then Some rate.F25
    else if code == 4 then Some rate.F2997
    else if code == 5 then Some rate.F30
    else if code == 6 then Some rate.F50
    else if code == 7 then Some rate.F5994
    else if code == 8 then Some rate.F60
    else None

-- frames in `den_of` seconds
abbrev pub num_of : Rate → ℕ
num_of rate.F23976 = 24000
num_of rate.F24 = 24
num_of rate.F25 = 25
num_of rate.F2997 = 30000
num_of rate.F30 = 30
num_of rate.F50 = 50
num_of rate.F5994 = 60000
num_of rate.F60 = 60

-- the seconds that `num_of` frames take
abbrev pub den_of : Rate → ℕ
den_of rate.F23976 = 1001
den_of rate.F24 = 1
den_of rate.F25 = 1
den_of rate.F2997 = 1001
den_of rate.F30 = 1
den_of rate.F50 = 1
den_of rate.F5994 = 1001
den_of rate.F60 = 1

-- triplets of cc_data in a frame
abbrev pub triplets_in_frame : Rate → ℕ
triplets_in_frame rate.F23976 = 25
triplets_in_frame rate.F24 = 25
triplets_in_frame rate.F25 = 24
triplets_in_frame rate.F2997 = 20
triplets_in_frame rate.F30 = 20
triplets_in_frame rate.F50 = 12
triplets_in_frame rate.F5994 = 10
triplets_in_frame rate.F60 = 10

-- a quotient, rounded up
abbrev pub ceil_quotient : ℕ → ℕ → ℕ
ceil_quotient a b = (a + (b - 1)) / b

-- the frames of a delay of this many tenths of a second
abbrev pub delay_frames_of : Rate → ℕ → ℕ
delay_frames_of r tenths = ceil_quotient (tenths * num_of r) (10 * den_of r)
