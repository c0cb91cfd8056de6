-- What the proof of `windows_count` cites.
mod Few
