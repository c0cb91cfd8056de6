-- State says where a pass stands. Laws and Machine: why a pass comes to what its steps say (steps/Steps).
pub mod Laws
pub mod Machine
pub mod State
