-- The data that are timed come from a shift register of 64 bits.
use Rattle.std.specs.Prelude.{ℕ, zero, suc, ◌*◌, ◌/◌, ◌%◌, ◌^◌, bit_xor}

-- one step (xorshift, with the shifts 13, 7 and 17)
unfoldable pub next_state : ℕ → ℕ
next_state state =
    let up = bit_xor state (state * 2 ^ 13 % 2 ^ 64) in
    let down = bit_xor up (up / 2 ^ 7) in
    bit_xor down (down * 2 ^ 17 % 2 ^ 64)

-- the state after so many steps
unfoldable pub state_after : ℕ → ℕ
state_after zero = 0x9e3779b97f4a7c15
state_after (suc steps) = next_state (state_after steps)
