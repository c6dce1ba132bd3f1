pub mod Asked
pub mod Keys
pub mod UnderWay
pub mod Steps
pub mod Goes
pub mod Whole
